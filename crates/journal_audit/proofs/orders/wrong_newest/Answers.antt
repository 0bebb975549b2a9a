use Rattle.std.proofs.Common.{◌≡◌, ◌-◌, ◌≤◌, ◌<◌, ℕ, List, [], length, map, refl, slice_index, arith, ap, subst, sym, ◌∙◌}
use Rattle.std.specs.List.{slice_index_or}
use Rattle.std.proofs.Math.ListN.{get_or-eq_default}
use Rattle.std.proofs.lemmas.List.{get_or_default}
use Rattle.flow_table.specs.Table.{TableFacts}
use Rattle.journal.specs.Journal.{order_in}
use Rattle.master_core.specs.Published.{ranked}
use Rattle.journal_audit.specs.Parted.{IsFirstPlace}
use Rattle.journal_audit.specs.Orders.{order_ids}
use Rattle.journal_audit.proofs.OrderSteps.{has_no_order, has_order, lacks_order, lacks_place}
use Rattle.journal_audit.proofs.orders.wrong_newest.Goals as goal

pub returns-then-index-orders : goal.returns-then-index-orders
returns-then-index-orders c =
    let past : length c.args.orders.now ≤ c.args.version - 1 = omega (arith, c.if-index-orders.true) in (
      refl,
      lacks_order c.args.master.now.opening c.args.master.now.journal c.args.orders.now (c.args.version - 1) past,
      lacks_place (slice_index_or c.args.orders.now (c.args.version - 1) []) (order_ids c.args.master.now.opening c.args.master.now.journal c.args.version)
          (get_or-eq_default c.args.orders.now [] past),
    )

pub parted_place-requires-clause-few : goal.parted_place-requires-clause-few
parted_place-requires-clause-few c = omega (arith, c.requires.few, c.places.ensures.few)

pub returns-in_default : goal.returns-in_default
returns-in_default c =
    let o = c.args.master.now.opening in
    let journal = c.args.master.now.journal in
    let within : c.args.version - 1 < length c.args.orders.now = omega (arith, c.if-index-orders.false) in
    let same : slice_index_or c.args.orders.now (c.args.version - 1) [] ≡ order_ids o journal c.args.version =
    get_or_default c.args.orders.now (c.args.version - 1) [] _ within ∙ sym c.index-orders-index.is ∙ sym c.as_slice.ensures ∙ c.in_default.ensures
    ∙ ap (λ (t : TableFacts). map (λ coflow. slice_index t.ids coflow) (ranked c.places.result.now)) c.table.ensures
    ∙ ap (map (λ coflow. slice_index o.table.ids coflow)) (c.places.ensures.order ∙ ap (order_in o journal) (sym c.requires.newest)) in
    has_order o journal c.args.orders.now c.args.version c.requires.some within same

pub returns : goal.returns
returns c =
    let o = c.args.master.now.opening in
    let journal = c.args.master.now.journal in
    let within : c.args.version - 1 < length c.args.orders.now = omega (arith, c.if-index-orders.false) in
    let stated : slice_index_or c.args.orders.now (c.args.version - 1) [] ≡ c.as_slice.result.now =
    get_or_default c.args.orders.now (c.args.version - 1) [] _ within ∙ sym c.index-orders-index.is ∙ sym c.as_slice.ensures in
    let real : map (λ coflow. slice_index c.table.result.now.ids coflow) (ranked c.places.result.now) ≡ order_ids o journal c.args.version =
    ap (λ (t : TableFacts). map (λ coflow. slice_index t.ids coflow) (ranked c.places.result.now)) c.table.ensures
    ∙ ap (map (λ coflow. slice_index o.table.ids coflow)) (c.places.ensures.order ∙ ap (order_in o journal) (sym c.requires.newest)) in (
      refl,
      has_no_order o journal c.args.orders.now c.args.version c.requires.some within (λ e. c.in-Some.ensures.0 (sym stated ∙ e ∙ sym real)),
      subst (λ (l : List ℕ). IsFirstPlace l (order_ids o journal c.args.version) c.in-Some.place) (sym stated)
          (subst (λ (l : List ℕ). IsFirstPlace c.as_slice.result.now l c.in-Some.place) real c.in-Some.ensures.1),
    )

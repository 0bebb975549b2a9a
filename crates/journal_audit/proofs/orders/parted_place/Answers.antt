use Rattle.std.proofs.Common.{◌≡◌, ◌<◌, ℕ, inl, inr, length, map, min, slice_index, arith, subst, sym, ◌∙◌}
use Rattle.std.proofs.lemmas.Bool.{cases_lt}
use Rattle.master_core.specs.Published.{ranked}
use Rattle.journal_audit.proofs.OrderSteps.{count_places, id_at, place_apart, same_order}
use Rattle.journal_audit.proofs.orders.parted_place.Goals as goal

pub returns-then-ids-index : goal.returns-then-ids-index
returns-then-ids-index c =
    let in_ids : c.loop-index.index < length c.args.ids.now = omega (arith, c.loop-index-test.true, c.min-few.ensures) in
    let in_places : c.loop-index.index < length c.args.places.now = omega (arith, c.loop-index-test.true, c.min-few.ensures) in
    place_apart c.args.ids.now (map (λ coflow. slice_index c.args.table.now.ids coflow) (ranked c.args.places.now)) c.loop-index.index in_ids
    (omega (arith, in_places, count_places c.args.table.now.ids c.args.places.now)) c.loop-index.invariant
    (λ e. c.if-ids-index.true (e ∙ id_at c.args.table.now.ids c.args.places.now c.loop-index.index _ in_places ∙ sym c.id.ensures))

pub loop-index-preserved : goal.loop-index-preserved
loop-index-preserved c = λ k lt.
    let in_places : c.loop-index.index < length c.args.places.now = omega (arith, c.loop-index-test.true, c.min-few.ensures) in
    elim (cases_lt k c.loop-index.index) [
      | inl less ↦ c.loop-index.invariant k less
      | inr le ↦
          let e : c.loop-index.index ≡ k = omega (arith, lt, le) in
          subst (λ (j : ℕ). slice_index c.args.ids.now j ≡ slice_index (map (λ coflow. slice_index c.args.table.now.ids coflow) (ranked c.args.places.now)) j) e
          (c.if-ids-index.false ∙ c.id.ensures ∙ sym (id_at c.args.table.now.ids c.args.places.now c.loop-index.index _ in_places))
    ]

pub returns-then-ids-places : goal.returns-then-ids-places
returns-then-ids-places c =
    let lengths : length c.args.ids.now ≡ length (map (λ coflow. slice_index c.args.table.now.ids coflow) (ranked c.args.places.now)) =
    omega (arith, c.if-ids-places.true, count_places c.args.table.now.ids c.args.places.now) in
    let few : c.loop-index.index ≡ min (length c.args.ids.now) (length (map (λ coflow. slice_index c.args.table.now.ids coflow) (ranked c.args.places.now))) =
    omega (arith, c.loop-index-test.false, c.loop-index.auto.index-end, c.min-few.ensures, c.if-ids-places.true, count_places c.args.table.now.ids c.args.places.now) in
    same_order c.args.ids.now (map (λ coflow. slice_index c.args.table.now.ids coflow) (ranked c.args.places.now)) c.loop-index.index few lengths c.loop-index.invariant

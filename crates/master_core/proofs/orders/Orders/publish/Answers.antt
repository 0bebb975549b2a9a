-- The table of what is left gives the order, and the order the ranks.
use Rattle.std.proofs.Common.{◌≡◌, ◌<◌, ◌∙◌, ℕ, List, ap, arith, length, refl, subst, sym}
use Rattle.std.specs.Prelude.{All}
use Rattle.coflow_units.specs.declared.plan.Place.{Place}
use Rattle.coflow_units.specs.Flows.{IsDistinct}
use Rattle.coflow_units.proofs.Fronts.{written_back}
use Rattle.journal.specs.Line.{rank_in}
use Rattle.master_core.specs.Published.{IsLeft, IsPublished, Published, ranked}
use Rattle.master_core.proofs.PlaceSteps.{each_within, filled_is_left, left_of, order_is_made, places_few, places_once}
use Rattle.master_core.proofs.orders.Orders.publish.Goals as goal

pub rank_places-requires-clause-few : goal.rank_places-requires-clause-few
rank_places-requires-clause-few c =
    let s = c.self.inside in
    let len = c.requires.present_len ∙ sym (ap (λ (v : Published). v.coflows) c.self.view_is) in
    let order = order_is_made c.args.flows.now c.args.left.now c.args.weights.now c.args.present.now s.loads c.fill_by_coflow.new.self c.run.new.self.places c.run.ensures.order
    c.fill_by_coflow.ensures.size len c.fill_by_coflow.ensures.present_are in
    omega (
      arith,
      places_few (left_of c.args.flows.now c.args.left.now c.args.weights.now c.args.present.now s.loads.ports) c.run.new.self.places c.args.present.now order refl,
      len,
      c.self.invariant.few_coflows,
      ap (λ (l : List Place). length l) c.places.ensures,
    )

pub rank_places-requires-clause-once : goal.rank_places-requires-clause-once
rank_places-requires-clause-once c =
    let s = c.self.inside in
    let len = c.requires.present_len ∙ sym (ap (λ (v : Published). v.coflows) c.self.view_is) in
    let order = order_is_made c.args.flows.now c.args.left.now c.args.weights.now c.args.present.now s.loads c.fill_by_coflow.new.self c.run.new.self.places c.run.ensures.order
    c.fill_by_coflow.ensures.size len c.fill_by_coflow.ensures.present_are in
    subst (λ (l : List Place). IsDistinct (ranked l)) (sym c.places.ensures)
    (places_once (left_of c.args.flows.now c.args.left.now c.args.weights.now c.args.present.now s.loads.ports) c.run.new.self.places order)

pub rank_places-requires-clause-coflow : goal.rank_places-requires-clause-coflow
rank_places-requires-clause-coflow c =
    let s = c.self.inside in
    let len = c.requires.present_len ∙ sym (ap (λ (v : Published). v.coflows) c.self.view_is) in
    let order = order_is_made c.args.flows.now c.args.left.now c.args.weights.now c.args.present.now s.loads c.fill_by_coflow.new.self c.run.new.self.places c.run.ensures.order
    c.fill_by_coflow.ensures.size len c.fill_by_coflow.ensures.present_are in
    let n : length c.args.present.now ≡ length c.deref_mut.result.now = len ∙ sym (ap (λ (l : List ℕ). length l) c.deref_mut.ensures.value ∙ c.self.invariant.ranks_len) in
    subst (λ (l : List Place). All (λ (x : Place). x.coflow < length c.deref_mut.result.now) l) (sym c.places.ensures)
    (subst (λ m. All (λ (x : Place). x.coflow < m) c.run.new.self.places) n
    (each_within (left_of c.args.flows.now c.args.left.now c.args.weights.now c.args.present.now s.loads.ports) c.run.new.self.places c.args.present.now order refl))

pub invariant_of-self : goal.invariant_of-self
invariant_of-self c =
    let s = c.self.inside in
    let len = c.requires.present_len ∙ sym (ap (λ (v : Published). v.coflows) c.self.view_is) in
    let order = order_is_made c.args.flows.now c.args.left.now c.args.weights.now c.args.present.now s.loads c.fill_by_coflow.new.self c.run.new.self.places c.run.ensures.order
    c.fill_by_coflow.ensures.size len c.fill_by_coflow.ensures.present_are in
    let i = left_of c.args.flows.now c.args.left.now c.args.weights.now c.args.present.now s.loads.ports in
    let coflows = c.run.ensures.size.coflows ∙ c.fill_by_coflow.ensures.size.coflows in
    let same = ap (λ (l : List ℕ). length l) c.deref_mut.ensures.value in
    let n : length c.rank_places.new.ranks ≡ s.ranks.len = c.rank_places.auto.ranks ∙ c.deref_mut.ensures.len in
    let back = written_back s.ranks.len c.rank_places.new.ranks s.ranks.items n in
    subst (λ (l : List ℕ). IsPublished c.run.new.self.places l c.run.new.loads.coflows c.run.new.loads.ports c.run.new.self.room c.run.new.loads.coflows c.run.new.loads.ports)
    (sym back) (record {
      few_coflows = omega (arith, coflows, c.self.invariant.few_coflows);
      room_is = c.run.ensures.room ∙ c.self.invariant.room_is ∙ sym coflows;
      load_coflows_are = refl;
      load_ports_are = refl;
      ranks_len = c.rank_places.auto.ranks ∙ same ∙ c.self.invariant.ranks_len ∙ sym coflows;
      places_len = omega (arith, places_few i c.run.new.self.places c.args.present.now order refl, len, coflows);
      once = places_once i c.run.new.self.places order;
      coflow = subst (λ m. All (λ (x : Place). x.coflow < m) c.run.new.self.places) (len ∙ sym coflows) (each_within i c.run.new.self.places c.args.present.now order refl);
      rank = λ x lt. c.rank_places.ensures x (omega (arith, lt, coflows, same, c.self.invariant.ranks_len)) ∙ ap (λ (l : List Place). rank_in (ranked l) x) c.places.ensures;
    })

pub returns-clause-order : goal.returns-clause-order
returns-clause-order c = λ i left.
    let s = c.self.inside in
    let ports = ap (λ (v : Published). v.ports) c.self.view_is in
    c.run.ensures.order i (filled_is_left i c.args.flows.now c.args.left.now c.args.weights.now c.args.present.now s.loads c.fill_by_coflow.new.self
    (subst (λ n. IsLeft i c.args.flows.now c.args.left.now c.args.weights.now c.args.present.now n) (sym ports) left) c.fill_by_coflow.ensures.size
    (c.requires.present_len ∙ sym (ap (λ (v : Published). v.coflows) c.self.view_is))
    c.fill_by_coflow.ensures.present_are)

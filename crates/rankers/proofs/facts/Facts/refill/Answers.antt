use Rattle.std.proofs.Common.{◌≡◌, ℕ, ◌<◌, ◌≤◌, Bool, true, List, ◌++◌, length, take, drop, get_or, refl, ap, sym, subst, ◌∙◌, arith}
use Rattle.std.specs.Prelude.{All, count_by, map, slice_index}
use Rattle.coflow_units.specs.declared.fabric.Flow.{Flow}
use Rattle.coflow_units.specs.declared.plan.Place.{Place}
use Rattle.coflow_units.proofs.Fronts.{written_back}
use Rattle.bssi_order.specs.Order.{IsOf}
use Rattle.class_rates.specs.Classes.{IsPermutation}
use Rattle.flow_table.specs.Table.{TableFacts}
use Rattle.port_load.specs.Bottleneck.{IsBottleneck}
use Rattle.rankers.specs.FactsTold.{FactsTold, IsBssiOrder, with_left}
use Rattle.rankers.proofs.AllMarked.{count_marked}
use Rattle.rankers.proofs.LoadCells.{cells_count, same_bottleneck, same_has_loads}
use Rattle.rankers.proofs.LeftLoads.{HasLoadsOfPresent, few_units_left, left_of_present, loads_of_present, order_of_present}
use Rattle.rankers.proofs.Permutations.{bssi_permutation}
use Rattle.rankers.proofs.facts.Facts.refill.Goals as goal

pub copy_coflows-requires : goal.copy_coflows-requires
copy_coflows-requires c =
    let coflows = ap (λ (f : FactsTold). length f.weights) c.self.view_is in
    omega (
      arith,
      ap (λ (l : List Place). length l) c.places.ensures,
      c.run.ensures.count,
      count_marked c.args.everyone.now c.requires.marked,
      c.requires.each_mark,
      c.requires.coflows,
      coflows,
      c.self.invariant.order_len,
      ap (λ (l : List ℕ). length l) c.deref_mut.ensures.value,
    )

pub invariant_of-self : goal.invariant_of-self
invariant_of-self c =
    let t = c.args.table.now in
    let n = length t.ids in
    let left = c.args.left.now in
    let present = c.args.present.now in
    let everyone = c.args.everyone.now in
    let weights = c.self.inside.weights.items in
    let loads = c.fill_by_coflow-2.new.self in
    let viewed = ap (λ (f : FactsTold). length f.weights) c.self.view_is in
    let coflows : length weights ≡ n = omega (arith, viewed, c.requires.coflows) in
    let first = subst (λ (fs : List Flow). HasLoadsOfPresent c.self.inside.loads c.fill_by_coflow.new.self fs left present) c.flows.ensures.flows
    (record { size = c.fill_by_coflow.ensures.size; present_are = c.fill_by_coflow.ensures.present_are; absent_are = c.fill_by_coflow.ensures.absent_are }) in
    let order_is : c.copy_coflows.new.order ≡ map (λ (x : Place). x.coflow) c.run.new.self.places =
    c.copy_coflows.ensures ∙ ap (λ (l : List Place). map (λ (x : Place). x.coflow) l) c.places.ensures in
    let in_first : c.fill_by_coflow.new.self.coflows ≡ n = omega (arith, c.fill_by_coflow.ensures.size.coflows, c.self.invariant.coflows, coflows) in
    let in_second : loads.coflows ≡ n = omega (arith, c.fill_by_coflow-2.ensures.size.coflows, c.run.ensures.size.coflows, in_first) in
    let wide : c.fill_by_coflow.new.self.ports ≡ t.ports =
    c.fill_by_coflow.ensures.size.ports ∙ ap (λ (f : FactsTold). f.loads.ports) c.self.view_is ∙ c.requires.ports in
    let bssi = order_of_present t weights left present everyone c.self.inside.loads c.fill_by_coflow.new.self c.run.new.self.places c.copy_coflows.new.order
    (left_of_present t.flows left present) first in_first wide c.requires.marked c.requires.each_mark
    (λ i of. c.run.ensures.order i (subst (λ w. IsOf i c.fill_by_coflow.new.self w everyone) (sym c.deref.ensures.value) of)) order_is (λ f lt. refl) in
    let (count, whole) = bssi_permutation (with_left t (left_of_present t.flows left present)) weights c.copy_coflows.new.order bssi in
    let greatest = written_back c.self.inside.bottlenecks.len c.fill_bottlenecks.new.bottlenecks c.self.inside.bottlenecks.items
    (c.fill_bottlenecks.auto.bottlenecks ∙ c.deref_mut-2.ensures.len) in
    let ordered = written_back c.self.inside.order.len c.copy_coflows.new.order c.self.inside.order.items (c.copy_coflows.auto.order ∙ c.deref_mut.ensures.len) in
    record {
      few = c.self.invariant.few;
      weight = c.self.invariant.weight;
      arrivals_len = c.self.invariant.arrivals_len;
      arrival = c.self.invariant.arrival;
      coflows = in_second ∙ sym coflows;
      cells_len = cells_count loads;
      bottlenecks_len = ap (λ (l : List ℕ). length l) greatest ∙ c.fill_bottlenecks.ensures.length ∙ in_second ∙ sym coflows;
      bottleneck = λ k lt.
          let low : k < loads.coflows = omega (arith, lt, coflows, in_second) in
          same_bottleneck loads k _ low (subst (λ l. IsBottleneck loads k (get_or l k 0)) (sym greatest) (c.fill_bottlenecks.ensures.greatest k low));
      units = subst (All (λ b. b ≤ 1099511627776)) (sym greatest)
          (few_units_left loads c.fill_bottlenecks.new.bottlenecks left c.fill_bottlenecks.ensures.length c.fill_bottlenecks.ensures.greatest
          (λ port low. c.fill_by_coflow-2.ensures.totals_within port (omega (arith, low, c.fill_by_coflow-2.ensures.size.ports))) c.requires.units);
      order_len = ap (λ (l : List ℕ). length l) ordered ∙ count ∙ sym coflows;
      order_is = subst IsPermutation (sym ordered) whole;
    }

pub returns-clause-facts : goal.returns-clause-facts
returns-clause-facts c = λ units units_are.
    let t = c.args.table.now in
    let n = length t.ids in
    let left = c.args.left.now in
    let present = c.args.present.now in
    let everyone = c.args.everyone.now in
    let weights = c.self.inside.weights.items in
    let loads = c.fill_by_coflow-2.new.self in
    let viewed = ap (λ (f : FactsTold). length f.weights) c.self.view_is in
    let coflows : length weights ≡ n = omega (arith, viewed, c.requires.coflows) in
    let first = subst (λ (fs : List Flow). HasLoadsOfPresent c.self.inside.loads c.fill_by_coflow.new.self fs left present) c.flows.ensures.flows
    (record { size = c.fill_by_coflow.ensures.size; present_are = c.fill_by_coflow.ensures.present_are; absent_are = c.fill_by_coflow.ensures.absent_are }) in
    let second = subst (λ (fs : List Flow). HasLoadsOfPresent c.run.new.loads loads fs left present) c.flows-2.ensures.flows
    (record { size = c.fill_by_coflow-2.ensures.size; present_are = c.fill_by_coflow-2.ensures.present_are; absent_are = c.fill_by_coflow-2.ensures.absent_are }) in
    let order_is : c.copy_coflows.new.order ≡ map (λ (x : Place). x.coflow) c.run.new.self.places =
    c.copy_coflows.ensures ∙ ap (λ (l : List Place). map (λ (x : Place). x.coflow) l) c.places.ensures in
    let in_first : c.fill_by_coflow.new.self.coflows ≡ n = omega (arith, c.fill_by_coflow.ensures.size.coflows, c.self.invariant.coflows, coflows) in
    let wide : c.fill_by_coflow.new.self.ports ≡ t.ports =
    c.fill_by_coflow.ensures.size.ports ∙ ap (λ (f : FactsTold). f.loads.ports) c.self.view_is ∙ c.requires.ports in
    let bssi = order_of_present t weights left present everyone c.self.inside.loads c.fill_by_coflow.new.self c.run.new.self.places c.copy_coflows.new.order
    units first in_first wide c.requires.marked c.requires.each_mark
    (λ i of. c.run.ensures.order i (subst (λ w. IsOf i c.fill_by_coflow.new.self w everyone) (sym c.deref.ensures.value) of)) order_is units_are in
    let ordered = written_back c.self.inside.order.len c.copy_coflows.new.order c.self.inside.order.items (c.copy_coflows.auto.order ∙ c.deref_mut.ensures.len) in
    record {
      weights_are = ap (λ (f : FactsTold). f.weights) c.self.view_is;
      arrivals_are = ap (λ (f : FactsTold). f.arrivals) c.self.view_is ∙ c.requires.arrivals;
      ports_are = c.fill_by_coflow-2.ensures.size.ports ∙ c.run.ensures.size.ports ∙ wide;
      loads_are = same_has_loads (with_left t units).flows loads (loads_of_present c.run.new.loads loads t.flows left present units second units_are);
      order_is = subst (IsBssiOrder (with_left t units) c.args.self.now.weights) (sym ordered)
          (subst (λ w. IsBssiOrder (with_left t units) w c.copy_coflows.new.order) (ap (λ (f : FactsTold). f.weights) c.self.view_is) bssi);
    }

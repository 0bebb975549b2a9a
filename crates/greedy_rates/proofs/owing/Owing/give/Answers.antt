-- Each sum grows by the units of the flow.
use Rattle.std.proofs.Common.{◌+◌, ◌^◌, ◌<◌, ◌≤◌, length, get_or, refl, sym, subst, ◌∙◌, arith, length-set}
use Rattle.std.specs.Prelude.{sum}
use Rattle.std.proofs.lemmas.List.{get_or_default}
use Rattle.coflow_units.specs.Flows.{coflow_of, ingress_of, egress_of}
use Rattle.greedy_rates.specs.Owed.{Owed, IsOwed}
use Rattle.greedy_rates.proofs.Tallies.{room_for, tally_grows}
use Rattle.greedy_rates.proofs.owing.Owing.give.Goals as goal

pub overflow_add-index_mut-2 : goal.overflow_add-index_mut-2
overflow_add-index_mut-2 c =
    let was = (subst (λ (o : Owed). IsOwed c.args.flows.now o) (sym c.self.view_is) c.requires.owed) in
    let lt : c.args.flow < length c.self.inside.left.items = omega (arith, c.requires.flow, was.count) in
    omega (
      arith,
      room_for (coflow_of c.args.flows.now) c.self.inside.left.items c.self.inside.of_coflow.items c.args.flow (coflow_of c.args.flows.now c.args.flow) c.args.units
          c.index_mut-2.result.now was.coflows lt refl c.index_mut-2.ensures.value
          (subst (λ (o : Owed). sum o.left + c.args.units ≤ 2 ^ 62) (sym c.self.view_is) c.requires.room),
    )

pub overflow_add-index_mut-3 : goal.overflow_add-index_mut-3
overflow_add-index_mut-3 c =
    let was = (subst (λ (o : Owed). IsOwed c.args.flows.now o) (sym c.self.view_is) c.requires.owed) in
    let lt : c.args.flow < length c.self.inside.left.items = omega (arith, c.requires.flow, was.count) in
    omega (
      arith,
      room_for (ingress_of c.args.flows.now) c.self.inside.left.items c.self.inside.at_ingress.items c.args.flow (ingress_of c.args.flows.now c.args.flow) c.args.units
          c.index_mut-3.result.now was.ingresses lt refl c.index_mut-3.ensures.value
          (subst (λ (o : Owed). sum o.left + c.args.units ≤ 2 ^ 62) (sym c.self.view_is) c.requires.room),
    )

pub overflow_add-index_mut-4 : goal.overflow_add-index_mut-4
overflow_add-index_mut-4 c =
    let was = (subst (λ (o : Owed). IsOwed c.args.flows.now o) (sym c.self.view_is) c.requires.owed) in
    let lt : c.args.flow < length c.self.inside.left.items = omega (arith, c.requires.flow, was.count) in
    omega (
      arith,
      room_for (egress_of c.args.flows.now) c.self.inside.left.items c.self.inside.at_egress.items c.args.flow (egress_of c.args.flows.now c.args.flow) c.args.units
          c.index_mut-4.result.now was.egresses lt refl c.index_mut-4.ensures.value
          (subst (λ (o : Owed). sum o.left + c.args.units ≤ 2 ^ 62) (sym c.self.view_is) c.requires.room),
    )

pub overflow_add-index_mut-5 : goal.overflow_add-index_mut-5
overflow_add-index_mut-5 c =
    let was = (subst (λ (o : Owed). IsOwed c.args.flows.now o) (sym c.self.view_is) c.requires.owed) in
    let lt : c.args.flow < length c.self.inside.left.items = omega (arith, c.requires.flow, was.count) in
    omega (
      arith,
      room_for (λ f. get_or c.self.inside.behind.items f 0) c.self.inside.left.items c.self.inside.of_group.items c.args.flow (c.index-group.result.now) c.args.units
          c.index_mut-5.result.now was.group_sums lt
          (omega (
            arith,
            c.index-group.ensures,
            get_or_default c.self.inside.behind.items c.args.flow 0 c.index-group.result.now (omega (arith, c.requires.flow, was.groups.count)),
          )) c.index_mut-5.ensures.value
          (subst (λ (o : Owed). sum o.left + c.args.units ≤ 2 ^ 62) (sym c.self.view_is) c.requires.room),
    )

pub returns-clause-owed : goal.returns-clause-owed
returns-clause-owed c =
    let was = (subst (λ (o : Owed). IsOwed c.args.flows.now o) (sym c.self.view_is) c.requires.owed) in
    let lt : c.args.flow < length c.self.inside.left.items = omega (arith, c.requires.flow, was.count) in
    record {
      count = length-set c.self.inside.left.items c.args.flow _ ∙ was.count;
      groups = was.groups;
      coflows = tally_grows (coflow_of c.args.flows.now) c.self.inside.left.items c.self.inside.of_coflow.items c.args.flow (coflow_of c.args.flows.now c.args.flow) c.args.units
          c.index_mut.result.now c.index_mut-2.result.now was.coflows lt refl c.index_mut.ensures.value c.index_mut-2.ensures.value;
      ingresses = tally_grows (ingress_of c.args.flows.now) c.self.inside.left.items c.self.inside.at_ingress.items c.args.flow (ingress_of c.args.flows.now c.args.flow)
          c.args.units c.index_mut.result.now c.index_mut-3.result.now was.ingresses lt refl c.index_mut.ensures.value c.index_mut-3.ensures.value;
      egresses = tally_grows (egress_of c.args.flows.now) c.self.inside.left.items c.self.inside.at_egress.items c.args.flow (egress_of c.args.flows.now c.args.flow) c.args.units
          c.index_mut.result.now c.index_mut-4.result.now was.egresses lt refl c.index_mut.ensures.value c.index_mut-4.ensures.value;
      group_sums = tally_grows (λ f. get_or c.self.inside.behind.items f 0) c.self.inside.left.items c.self.inside.of_group.items c.args.flow (c.index-group.result.now)
          c.args.units c.index_mut.result.now c.index_mut-5.result.now was.group_sums lt
          (omega (
            arith,
            c.index-group.ensures,
            get_or_default c.self.inside.behind.items c.args.flow 0 c.index-group.result.now (omega (arith, c.requires.flow, was.groups.count)),
          )) c.index_mut.ensures.value
          c.index_mut-5.ensures.value;
    }

-- Each sum falls by the units of the flow.
use Rattle.std.proofs.Common.{◌<◌, ◌≤◌, length, get_or, refl, sym, subst, ◌∙◌, arith, length-set}
use Rattle.std.proofs.lemmas.List.{get_or_default}
use Rattle.coflow_units.specs.Flows.{coflow_of, ingress_of, egress_of}
use Rattle.greedy_rates.specs.Owed.{Owed, IsOwed}
use Rattle.greedy_rates.proofs.Tallies.{enough_in, tally_falls}
use Rattle.greedy_rates.proofs.owing.Owing.take.Goals as goal

pub overflow_sub-index_mut-2 : goal.overflow_sub-index_mut-2
overflow_sub-index_mut-2 c =
    let was = (subst (λ (o : Owed). IsOwed c.args.flows.now o) (sym c.self.view_is) c.requires.owed) in
    let lt : c.args.flow < length c.self.inside.left.items = omega (arith, c.requires.flow, was.count) in
    enough_in (coflow_of c.args.flows.now) c.self.inside.left.items c.self.inside.of_coflow.items c.args.flow (coflow_of c.args.flows.now c.args.flow) c.args.units
    c.index_mut-2.result.now was.coflows lt refl c.index_mut-2.ensures.value
    (subst (λ (o : Owed). c.args.units ≤ get_or o.left c.args.flow 0) (sym c.self.view_is) c.requires.enough)

pub overflow_sub-index_mut-3 : goal.overflow_sub-index_mut-3
overflow_sub-index_mut-3 c =
    let was = (subst (λ (o : Owed). IsOwed c.args.flows.now o) (sym c.self.view_is) c.requires.owed) in
    let lt : c.args.flow < length c.self.inside.left.items = omega (arith, c.requires.flow, was.count) in
    enough_in (ingress_of c.args.flows.now) c.self.inside.left.items c.self.inside.at_ingress.items c.args.flow (ingress_of c.args.flows.now c.args.flow) c.args.units
    c.index_mut-3.result.now was.ingresses lt refl c.index_mut-3.ensures.value
    (subst (λ (o : Owed). c.args.units ≤ get_or o.left c.args.flow 0) (sym c.self.view_is) c.requires.enough)

pub overflow_sub-index_mut-4 : goal.overflow_sub-index_mut-4
overflow_sub-index_mut-4 c =
    let was = (subst (λ (o : Owed). IsOwed c.args.flows.now o) (sym c.self.view_is) c.requires.owed) in
    let lt : c.args.flow < length c.self.inside.left.items = omega (arith, c.requires.flow, was.count) in
    enough_in (egress_of c.args.flows.now) c.self.inside.left.items c.self.inside.at_egress.items c.args.flow (egress_of c.args.flows.now c.args.flow) c.args.units
    c.index_mut-4.result.now was.egresses lt refl c.index_mut-4.ensures.value
    (subst (λ (o : Owed). c.args.units ≤ get_or o.left c.args.flow 0) (sym c.self.view_is) c.requires.enough)

pub overflow_sub-index_mut-5 : goal.overflow_sub-index_mut-5
overflow_sub-index_mut-5 c =
    let was = (subst (λ (o : Owed). IsOwed c.args.flows.now o) (sym c.self.view_is) c.requires.owed) in
    let lt : c.args.flow < length c.self.inside.left.items = omega (arith, c.requires.flow, was.count) in
    enough_in (λ f. get_or c.self.inside.behind.items f 0) c.self.inside.left.items c.self.inside.of_group.items c.args.flow (c.index-group.result.now) c.args.units
    c.index_mut-5.result.now was.group_sums lt
    (omega (arith, c.index-group.ensures, get_or_default c.self.inside.behind.items c.args.flow 0 c.index-group.result.now (omega (arith, c.requires.flow, was.groups.count))))
    c.index_mut-5.ensures.value
    (subst (λ (o : Owed). c.args.units ≤ get_or o.left c.args.flow 0) (sym c.self.view_is) c.requires.enough)

pub returns-clause-owed : goal.returns-clause-owed
returns-clause-owed c =
    let was = (subst (λ (o : Owed). IsOwed c.args.flows.now o) (sym c.self.view_is) c.requires.owed) in
    let lt : c.args.flow < length c.self.inside.left.items = omega (arith, c.requires.flow, was.count) in
    let enough = subst (λ (o : Owed). c.args.units ≤ get_or o.left c.args.flow 0) (sym c.self.view_is) c.requires.enough in
    record {
      count = length-set c.self.inside.left.items c.args.flow _ ∙ was.count;
      groups = was.groups;
      coflows = tally_falls (coflow_of c.args.flows.now) c.self.inside.left.items c.self.inside.of_coflow.items c.args.flow (coflow_of c.args.flows.now c.args.flow) c.args.units
          c.index_mut.result.now c.index_mut-2.result.now was.coflows lt refl c.index_mut.ensures.value c.index_mut-2.ensures.value enough;
      ingresses = tally_falls (ingress_of c.args.flows.now) c.self.inside.left.items c.self.inside.at_ingress.items c.args.flow (ingress_of c.args.flows.now c.args.flow)
          c.args.units c.index_mut.result.now c.index_mut-3.result.now was.ingresses lt refl c.index_mut.ensures.value c.index_mut-3.ensures.value enough;
      egresses = tally_falls (egress_of c.args.flows.now) c.self.inside.left.items c.self.inside.at_egress.items c.args.flow (egress_of c.args.flows.now c.args.flow) c.args.units
          c.index_mut.result.now c.index_mut-4.result.now was.egresses lt refl c.index_mut.ensures.value c.index_mut-4.ensures.value enough;
      group_sums = tally_falls (λ f. get_or c.self.inside.behind.items f 0) c.self.inside.left.items c.self.inside.of_group.items c.args.flow (c.index-group.result.now)
          c.args.units c.index_mut.result.now c.index_mut-5.result.now was.group_sums lt
          (omega (
            arith,
            c.index-group.ensures,
            get_or_default c.self.inside.behind.items c.args.flow 0 c.index-group.result.now (omega (arith, c.requires.flow, was.groups.count)),
          )) c.index_mut.ensures.value
          c.index_mut-5.ensures.value enough;
    }

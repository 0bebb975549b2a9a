use Rattle.std.proofs.Common.{length, subst, sym}
use Rattle.schedule_model.specs.RunList.{NamesFlows, slots_in}
use Rattle.schedule_model.proofs.ValidSteps.{valid_names}
use Rattle.plan_tests.proofs.stats.coflows_of.Goals as goal

pub finished_of-requires-clause-names : goal.finished_of-requires-clause-names
finished_of-requires-clause-names g c =
    let named = valid_names c.flows.result.now c.args.schedule.now (c.in-Ok.ensures.valid.0 c.in-None.is) in
    subst (λ flows. NamesFlows (length flows) (slots_in c.kept.result.now)) c.flows.ensures.flows
    (subst (NamesFlows (length c.flows.result.now)) (sym c.kept.ensures.slots) named)

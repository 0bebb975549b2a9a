use Rattle.std.proofs.lemmas.Grind.{common_steps}
use Rattle.std.proofs.Common.{arith}
use Rattle.std.proofs.lemmas.List.FromFn.{length-map-range_with_len}
use Rattle.schedule_model.proofs.ValidSteps.{valid_names}
use Rattle.plan_tests.proofs.schedules.told.Goals as goal

pub is_patient-requires : goal.is_patient-requires
is_patient-requires g c = valid_names c.args.flows.now c.args.schedule.now (c.in-Ok.ensures.valid.0 c.in-None.is)

pub completions-requires : goal.completions-requires
completions-requires g c = valid_names c.args.flows.now c.args.schedule.now (c.in-Ok.ensures.valid.0 c.in-None.is)

pub cost_of-cost-requires-clause-each : goal.cost_of-cost-requires-clause-each
cost_of-cost-requires-clause-each g c = grind (arith, common_steps, length-map-range_with_len)

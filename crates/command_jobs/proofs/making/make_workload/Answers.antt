use Rattle.std.proofs.Common.{◌∙◌, inr, refl, ap, Err}
use Rattle.command_jobs.specs.Make.{HasMadeCause}
use Rattle.command_jobs.proofs.MadePlan.{made_of, read_is_sound}
use Rattle.command_jobs.proofs.WireFacts.{plan_cause}
use Rattle.plans.proofs.PlanLengths.{few_units_short}
use Rattle.command_jobs.proofs.making.make_workload.Goals as goal

pub written_and_read-requires-clause-few : goal.written_and_read-requires-clause-few
written_and_read-requires-clause-few g c =
    few_units_short c.in_ok-input.input.table c.in_ok-input.input.weights _ c.in_ok-planned.planned c.in_ok-input.ensures.table c.in_ok-input.ensures.units
    c.in_ok-planned.ensures.report c.in_ok-planned.ensures.small c.in_ok-planned.ensures.plan.0 refl

pub summary-told-requires-clause-sound : goal.summary-told-requires-clause-sound
summary-told-requires-clause-sound g c =
    read_is_sound c.in_ok-input.input.table c.in_ok-input.input.weights c.in_ok-planned.planned c.in-Ok.report
    c.in_ok-input.ensures.table c.in_ok-input.ensures.ids c.in_ok-input.ensures.count c.in_ok-input.ensures.least c.in_ok-planned.ensures.plan.0
    c.in-Ok.ensures

pub returns-clause-outcome : goal.returns-clause-outcome
returns-clause-outcome g c = (
  refl,
  made_of c.in_ok-input.input.table c.in_ok-input.input.weights c.in_ok-planned.planned c.in-Ok.report _ c.args.seed c.args.options.unit.megabytes
      c.of_bytes.result
      c.in_ok-input.ensures.table c.in_ok-input.ensures.ids c.in_ok-input.ensures.count c.in_ok-input.ensures.least c.in_ok-planned.ensures.plan.0 c.in_ok-planned.ensures.plan.1
      c.in-Ok.ensures
      c.in_ok-input.ensures.gives (c.of_bytes.ensures ∙ c.in_ok-text.ensures),
)

pub returns-in_err-planned-clause-cause : goal.returns-in_err-planned-clause-cause
returns-in_err-planned-clause-cause g c =
    plan_cause c.from_residual-in_err-planned.result c.in_err-planned.field-0.0 c.from_residual-in_err-planned.ensures.1 HasMadeCause _ tt
    (λ port is. (c.in_ok-input.input.table, c.in_ok-input.input.weights, c.in_ok-input.ensures.gives, c.in_err-planned.ensures.fault port (ap Err is)))

pub returns-in_err-planned-clause-sent : goal.returns-in_err-planned-clause-sent
returns-in_err-planned-clause-sent g c = inr (c.in_ok-input.input.table, c.in_ok-input.input.weights, c.in_ok-input.ensures.gives, c.serve.ensures.sent)

pub returns-in_default-clause-sent : goal.returns-in_default-clause-sent
returns-in_default-clause-sent g c = inr (c.in_ok-input.input.table, c.in_ok-input.input.weights, c.in_ok-input.ensures.gives, c.serve.ensures.sent)

pub returns-in_err-text-clause-sent : goal.returns-in_err-text-clause-sent
returns-in_err-text-clause-sent g c = inr (c.in_ok-input.input.table, c.in_ok-input.input.weights, c.in_ok-input.ensures.gives, c.serve.ensures.sent)

pub returns-clause-sent : goal.returns-clause-sent
returns-clause-sent g c = inr (c.in_ok-input.input.table, c.in_ok-input.input.weights, c.in_ok-input.ensures.gives, c.serve.ensures.sent)

use Rattle.std.proofs.Common.{◌≡◌, subst}
use Rattle.std.specs.Prelude.{◌↔◌, None}
use Rattle.coflow_units.specs.Schedule.{IsValid}
use Rattle.schedule_model.specs.Fault.{IsFirstFault}
use Rattle.schedule_model.proofs.validity.find_fault.Goals as goal

pub returns-clause-first : goal.returns-clause-first
returns-clause-first c = subst (λ s. IsFirstFault c.args.flows.now s c.in_ok-fault.fault) c.kept.ensures.slots c.in_ok-fault.ensures.first

pub returns-clause-valid : goal.returns-clause-valid
returns-clause-valid c = subst (λ s. (c.in_ok-fault.fault ≡ None) ↔ IsValid c.args.flows.now s) c.kept.ensures.slots c.in_ok-fault.ensures.valid

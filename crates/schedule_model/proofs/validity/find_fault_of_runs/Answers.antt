use Rattle.std.specs.Prelude.{Some}
use Rattle.schedule_model.specs.RunList.{slots_in}
use Rattle.schedule_model.specs.declared.fault.ScheduleFault.TheVariants.{NoFlow, Clash}
use Rattle.schedule_model.proofs.ValidSteps.{none_where_valid}
use Rattle.schedule_model.proofs.validity.find_fault_of_runs.Goals as goal

pub returns-in-Some-clause-valid : goal.returns-in-Some-clause-valid
returns-in-Some-clause-valid c =
    let first = rw c.in-Some.is at c.in_ok-slot.ensures in
    none_where_valid c.args.flows.now (slots_in c.args.runs.now) (Some (NoFlow c.in-Some.slot c.in-Some.flow)) first

pub returns-in-Some-2-clause-valid : goal.returns-in-Some-2-clause-valid
returns-in-Some-2-clause-valid c =
    let first = rw c.in-Some-2.is at c.in_ok-slot-2.ensures in
    none_where_valid c.args.flows.now (slots_in c.args.runs.now) (Some (Clash c.in-Some-2.slot c.in-Some-2.port)) first

pub returns-clause-valid : goal.returns-clause-valid
returns-clause-valid c = none_where_valid c.args.flows.now (slots_in c.args.runs.now) c.in_ok-fault.fault c.in_ok-fault.ensures

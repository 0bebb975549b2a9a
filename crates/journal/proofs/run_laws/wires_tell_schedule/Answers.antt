use Rattle.journal.proofs.WireUnits.{wire_units}
use Rattle.journal.proofs.Wires.{none_in_zero, pair_once}
use Rattle.journal.proofs.run_laws.wires_tell_schedule.Goals as goal

pub returns-clause-pair : goal.returns-clause-pair
returns-clause-pair c = pair_once

pub returns-clause-zero : goal.returns-clause-zero
returns-clause-zero c = none_in_zero

pub returns-clause-units : goal.returns-clause-units
returns-clause-units c = wire_units

use Rattle.coflow_units.proofs.ServedLaws.{grants_patient}
use Rattle.coflow_units.proofs.laws.grants_are_patient.Goals as goal

pub returns : goal.returns
returns c = grants_patient

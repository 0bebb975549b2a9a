use Rattle.coflow_units.proofs.RunLengths.{one_run_length, run_length, run_length_is}
use Rattle.coflow_units.proofs.laws.run_length_is_one.Goals as goal

pub returns-clause-exists : goal.returns-clause-exists
returns-clause-exists c = λ left granted most. (run_length left granted most, run_length_is left granted most)

pub returns-clause-one : goal.returns-clause-one
returns-clause-one c = one_run_length

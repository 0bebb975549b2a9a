use Rattle.coflow_units.proofs.RunLengths.{some_grant}
use Rattle.coflow_units.proofs.laws.grants_are_not_idle.Goals as goal

pub returns : goal.returns
returns c = some_grant

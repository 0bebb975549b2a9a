use Rattle.flow_table.proofs.LimitSteps.{one_limit}
use Rattle.flow_table.proofs.laws.limit_is_one.Goals as goal

pub returns : goal.returns
returns c = one_limit

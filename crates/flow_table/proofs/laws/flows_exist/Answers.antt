use Rattle.flow_table.proofs.FlowsExist.{flows_are_there}
use Rattle.flow_table.proofs.laws.flows_exist.Goals as goal

pub returns : goal.returns
returns c = λ t unit trace. flows_are_there t unit trace

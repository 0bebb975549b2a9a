use Rattle.flow_table.specs.Sent.{sent}
use Rattle.flow_table.proofs.FlowsOne.{flows_one}
use Rattle.flow_table.proofs.laws.flows_are_one.Goals as goal

pub returns : goal.returns
returns c = λ t unit a b ha hb. flows_one (sent t unit) a b ha hb

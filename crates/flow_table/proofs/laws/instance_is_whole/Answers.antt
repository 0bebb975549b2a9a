use Rattle.flow_table.proofs.Whole.{whole}
use Rattle.flow_table.proofs.laws.instance_is_whole.Goals as goal

pub returns : goal.returns
returns c = λ t weights h count some. whole t weights h count some

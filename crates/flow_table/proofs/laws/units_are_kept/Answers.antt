use Rattle.flow_table.proofs.Kept.{all_kept}
use Rattle.flow_table.proofs.laws.units_are_kept.Goals as goal

pub returns : goal.returns
returns c = λ t unit flows trace h. all_kept t unit flows trace h

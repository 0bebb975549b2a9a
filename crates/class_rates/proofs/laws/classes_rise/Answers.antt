use Rattle.class_rates.proofs.ClassRows.{rise_law}
use Rattle.class_rates.proofs.laws.classes_rise.Goals as goal

pub returns : goal.returns
returns c = rise_law

use Rattle.class_rates.proofs.ClassRows.{count_law}
use Rattle.class_rates.proofs.laws.count_goes_by_places.Goals as goal

pub returns : goal.returns
returns c = count_law

use Rattle.stats_cli.proofs.RatioFacts.{right_numbers}
use Rattle.stats_cli.proofs.laws.no_ratio_is_right_otherwise.Goals as goal

pub returns : goal.returns
returns c = right_numbers

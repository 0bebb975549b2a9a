use Rattle.coflow_stats.proofs.RankSteps.{one_percentile}
use Rattle.coflow_stats.proofs.laws.percentile_is_one.Goals as goal

pub returns : goal.returns
returns c = one_percentile

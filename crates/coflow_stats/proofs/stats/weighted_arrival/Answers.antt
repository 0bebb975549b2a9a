use Rattle.std.proofs.Common.{arith}
use Rattle.coflow_stats.proofs.SummarySteps.{product_below}
use Rattle.coflow_stats.proofs.stats.weighted_arrival.Goals as goal

pub returns-clause-small : goal.returns-clause-small
returns-clause-small c = product_below c.from.result c.from-2.result (omega arith) (omega arith)

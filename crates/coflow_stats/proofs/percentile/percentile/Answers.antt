use Rattle.std.proofs.Common.{◌≡◌, ◌+◌, ◌-◌, ◌<◌, length, arith}
use Rattle.coflow_stats.specs.Percentile.{rank}
use Rattle.coflow_stats.proofs.RankSteps.{at_rank}
use Rattle.coflow_stats.proofs.percentile.percentile.Goals as goal

pub returns : goal.returns
returns c =
    let k = c.rank.result - 1 in
    let xs = c.args.sorted.now in
    let within : k < length xs = omega (arith, c.rank.ensures.first, c.rank.ensures.last) in
    let is : rank c.args.percent (length xs) ≡ k + 1 = omega (arith, c.rank.ensures.rank, c.rank.ensures.first) in
    at_rank c.args.percent xs k c.requires.sorted within is

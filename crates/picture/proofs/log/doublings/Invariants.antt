-- b was doubled so often
use Rattle.std.proofs.Common.{◌-◌}
use Rattle.picture.proofs.LogSteps.{IsDoubled}
use Rattle.picture.proofs.log.doublings.Given as goal

abbrev pub invariant-loop-doubled : goal.invariant-loop-doubled
invariant-loop-doubled l = IsDoubled l.b l.c l.doubled l.count

abbrev pub decreases-loop-doubled : goal.decreases-loop-doubled
decreases-loop-doubled l = l.c - l.doubled

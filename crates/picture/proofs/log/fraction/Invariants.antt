-- the bits so far
use Rattle.std.proofs.Common.{◌-◌}
use Rattle.picture.proofs.LogSteps.{HasBits}
use Rattle.picture.proofs.log.fraction.Given as goal

abbrev pub invariant-loop : goal.invariant-loop
invariant-loop l = HasBits l.start l.number l.bits (10 - l.counter)

-- the edges among the times so far
use Rattle.std.proofs.Common.{◌≡◌, take}
use Rattle.std.specs.Prelude.{filter}
use Rattle.picture.specs.Run.{is_edge}
use Rattle.picture.proofs.run.ticks_in.Given as goal

abbrev pub invariant-loop-time : goal.invariant-loop-time
invariant-loop-time l = l.ticks.items ≡ filter (is_edge l.fn.span) (take l.time-index l.times)

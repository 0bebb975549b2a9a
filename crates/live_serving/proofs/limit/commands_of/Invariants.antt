-- the commands of the rounds so far
use Rattle.std.proofs.Common.{◌≡◌, length, take}
use Rattle.live_model.specs.Script.{lines_from}
use Rattle.live_serving.proofs.limit.commands_of.Given as goal

abbrev pub invariant-loop-round : goal.invariant-loop-round
invariant-loop-round l = record { count : l.count ≡ length (lines_from 0 (take l.round-index l.script.rounds)) }

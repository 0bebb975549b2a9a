-- the lines of the client so far
use Rattle.std.proofs.Common.{◌≡◌, take}
use Rattle.live_rounds.specs.Parts.{lines_for}
use Rattle.live_rounds.proofs.part.part_of.Given as goal

abbrev pub invariant-loop-line : goal.invariant-loop-line
invariant-loop-line l = l.mine.items ≡ lines_for l.number (take l.line-index l.lines)

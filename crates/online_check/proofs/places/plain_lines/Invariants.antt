-- the lines so far
use Rattle.std.proofs.Common.{◌≡◌, take}
use Rattle.online_check.specs.Released.{plain_lines}
use Rattle.online_check.proofs.places.plain_lines.Given as goal

abbrev pub invariant-loop-line : goal.invariant-loop-line
invariant-loop-line l = l.plain.items ≡ plain_lines (take l.line-index l.lines)

use Rattle.std.proofs.Common.{◌≡◌, take}
use Rattle.std.specs.Prelude.{map}
use Rattle.online_runs.specs.Value.{release_line}
use Rattle.online_runs.proofs.ending.release_lines.Given as goal

abbrev pub invariant-loop-place : goal.invariant-loop-place
invariant-loop-place l = l.lines.items ≡ map (release_line l.table.ids) (take l.place-index l.places)

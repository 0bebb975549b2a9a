use Rattle.std.proofs.Common.{◌≡◌}
use Rattle.std.specs.Prelude.{map}
use Rattle.std.specs.List.{range_with_len}
use Rattle.online_runs.proofs.Endings.{line_at}
use Rattle.online_runs.proofs.ending.done_lines.Given as goal

abbrev pub invariant-loop-coflow : goal.invariant-loop-coflow
invariant-loop-coflow l = l.lines.items ≡ map (line_at l.table.ids l.ends) (range_with_len 0 l.coflow)

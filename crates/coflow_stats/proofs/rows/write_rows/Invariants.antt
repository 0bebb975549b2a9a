-- the lines so far
use Rattle.std.proofs.Common.{◌≡◌, take}
use Rattle.coflow_stats.specs.Rows.{rows_text}
use Rattle.coflow_stats.proofs.rows.write_rows.Given as goal

abbrev pub invariant-loop-coflow : goal.invariant-loop-coflow
invariant-loop-coflow l = l.text.items ≡ rows_text l.unit (take l.coflow-index l.coflows)

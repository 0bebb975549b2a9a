use Rattle.std.proofs.Common.{arith}
use Rattle.coflow_stats.proofs.TextParts.{row_step}
use Rattle.coflow_stats.proofs.rows.write_rows.Goals as goal

pub loop-coflow-preserved : goal.loop-coflow-preserved
loop-coflow-preserved c =
    row_step c.args.unit c.args.coflows.now c.loop-coflow.coflow-index _ c.loop-coflow.text.items c.push_row.new.text.items
    (omega arith) c.loop-coflow.invariant c.in_ok-push_row.ensures

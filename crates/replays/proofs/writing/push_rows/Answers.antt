use Rattle.std.proofs.Common.{arith}
use Rattle.replays.specs.Text.{row_line}
use Rattle.report_text.proofs.TextSteps.{each_step}
use Rattle.replays.proofs.writing.push_rows.Goals as goal

pub loop-row-preserved : goal.loop-row-preserved
loop-row-preserved c =
    each_step row_line c.args.rows.now c.loop-row.row-index c.row-item.result c.args.text.now.items c.loop-row.text.items c.push_row.new.text.items (omega arith)
    c.row-item.is c.loop-row.invariant c.in_ok-push_row.ensures

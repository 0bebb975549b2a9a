use Rattle.std.proofs.Common.{zero-add}
use Rattle.picture.specs.Svg.{row_text}
use Rattle.picture.proofs.TextSteps.{number_more}
use Rattle.picture.proofs.bars_text.push_rows.Goals as goal

pub loop-port-preserved : goal.loop-port-preserved
loop-port-preserved c =
    number_more (row_text c.args.picture.now) 0 c.loop-port.port c.loop-port.port c.args.text.now.items c.loop-port.text.items c.push_row.new.text.items
    (zero-add c.loop-port.port) c.loop-port.invariant c.in_ok-push_row.ensures

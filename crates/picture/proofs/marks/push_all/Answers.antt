use Rattle.std.proofs.Common.{zero-add}
use Rattle.picture.specs.Marks.{row_marks}
use Rattle.picture.proofs.TextSteps.{number_more}
use Rattle.picture.proofs.marks.push_all.Goals as goal

pub loop-port-preserved : goal.loop-port-preserved
loop-port-preserved c =
    number_more (row_marks c.args.picture.now) 0 c.loop-port.port c.loop-port.port c.args.text.now.items c.loop-port.text.items c.push_row.new.text.items
    (zero-add c.loop-port.port) c.loop-port.invariant c.in_ok-push_row.ensures

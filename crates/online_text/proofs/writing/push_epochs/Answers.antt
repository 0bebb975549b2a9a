use Rattle.std.proofs.Common.{arith}
use Rattle.online_text.specs.Text.{epoch_lines}
use Rattle.online_text.proofs.TextSteps.{block_step}
use Rattle.online_text.proofs.writing.push_epochs.Goals as goal

pub loop-epoch-preserved : goal.loop-epoch-preserved
loop-epoch-preserved c =
    block_step epoch_lines c.args.epochs.now c.loop-epoch.epoch-index c.epoch-item.result c.args.text.now.items c.loop-epoch.text.items c.push_epoch.new.text.items (omega arith)
    c.epoch-item.is c.loop-epoch.invariant c.in_ok-push_epoch.ensures

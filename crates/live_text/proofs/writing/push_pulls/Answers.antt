use Rattle.std.proofs.Common.{get_or, arith}
use Rattle.std.proofs.lemmas.List.{get_or_default}
use Rattle.report_text.proofs.TextSteps.{each_step}
use Rattle.live_text.specs.declared.value.PullLine.{PullLine}
use Rattle.live_text.specs.Text.{pull_line}
use Rattle.live_text.proofs.writing.push_pulls.Goals as goal

pub loop-pull-preserved : goal.loop-pull-preserved
loop-pull-preserved c =
    let none : PullLine = record { client = 0; line = 0; id = 0; version = 0; rank = 0 } in
    let k = c.loop-pull.pull-index in
    let pull : PullLine = get_or c.args.pulls.now k none in
    each_step pull_line c.args.pulls.now k pull c.args.text.now.items c.loop-pull.text.items c.push_pull.new.text.items (omega arith)
    (get_or_default c.args.pulls.now k none pull (omega arith)) c.loop-pull.invariant c.in_ok-push_pull.ensures

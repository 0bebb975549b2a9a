use Rattle.std.proofs.Common.{get_or, arith}
use Rattle.std.proofs.lemmas.List.{get_or_default}
use Rattle.report_text.proofs.TextSteps.{each_step}
use Rattle.online_text.specs.declared.value.DoneLine.{DoneLine}
use Rattle.online_text.specs.Text.{done_line}
use Rattle.online_text.proofs.writing.push_done.Goals as goal

pub loop-coflow-preserved : goal.loop-coflow-preserved
loop-coflow-preserved c =
    let none : DoneLine = record { id = 0; slot = 0 } in
    let k = c.loop-coflow.coflow-index in
    let line : DoneLine = get_or c.args.done.now k none in
    each_step done_line c.args.done.now k line c.args.text.now.items c.loop-coflow.text.items c.push_completion.new.text.items (omega arith)
    (get_or_default c.args.done.now k none line (omega arith)) c.loop-coflow.invariant c.in_ok-push_completion.ensures

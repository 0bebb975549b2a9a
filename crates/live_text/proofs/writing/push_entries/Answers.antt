use Rattle.std.proofs.Common.{get_or, arith}
use Rattle.std.proofs.lemmas.List.{get_or_default}
use Rattle.live_text.specs.declared.value.EntryLine.{EntryLine}
use Rattle.live_text.specs.declared.value.Said.TheVariants.{Joined}
use Rattle.live_text.specs.declared.value.Word.TheVariants.{Register}
use Rattle.live_text.specs.Text.{entry_line}
use Rattle.live_text.proofs.TextSteps.{numbered_step}
use Rattle.live_text.proofs.writing.push_entries.Goals as goal

pub loop-index-preserved : goal.loop-index-preserved
loop-index-preserved c =
    let none : EntryLine = record { who = 0; word = Register 0; said = Joined } in
    let k = c.loop-index.index in
    let entry : EntryLine = get_or c.args.entries.now k none in
    numbered_step entry_line c.args.entries.now k entry c.args.text.now.items c.loop-index.text.items c.push_entry.new.text.items (omega (arith, c.loop-index-test.true))
    (get_or_default c.args.entries.now k none entry (omega (arith, c.loop-index-test.true))) c.loop-index.invariant c.in_ok-push_entry.ensures

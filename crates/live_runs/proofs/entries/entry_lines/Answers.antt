-- Each entry has a line.
use Rattle.std.proofs.Common.{List, [], ◌∷◌, length, sym, ap, subst, ◌∙◌, arith, length-append}
use Rattle.std.specs.Prelude.{All}
use Rattle.std.specs.Option.{IsSome}
use Rattle.journal.specs.declared.command.Entry.{Entry}
use Rattle.live_text.specs.declared.value.EntryLine.{EntryLine}
use Rattle.live_model.specs.Printed.{told_entry}
use Rattle.live_runs.proofs.LineSteps.{has_line, line_more}
use Rattle.live_runs.proofs.entries.entry_lines.Goals as goal

pub unreachable-requires : goal.unreachable-requires
unreachable-requires c =
    let o = c.args.closed.now.opening in
    let j = c.journal-journal.result.now in
    let words : All (λ (e : Entry). IsSome (told_entry o e)) j =
    subst (All (λ (e : Entry). IsSome (told_entry o e))) (sym c.journal-journal.ensures.journal) c.requires.words in
    has_line o j c.loop-entry.entry-index _ c.entry_line.result words c.loop-entry-test.true (c.entry_line.ensures o (sym c.table.ensures)) c.in_default.is

pub loop-entry-preserved : goal.loop-entry-preserved
loop-entry-preserved c =
    let o = c.args.closed.now.opening in
    let at = c.loop-entry in
    let i = at.invariant in
    let line = c.in-Some.line in
    let items = c.push_reserved.ensures.items in
    let told = sym c.in-Some.is ∙ c.entry_line.ensures o (sym c.table.ensures) in
    let many = i.many in
    let room = i.room in
    record {
      lines = line_more o c.journal-journal.result.now at.entry-index _ line at.lines.items c.push_reserved.new.self.items c.loop-entry-test.true i.lines told items;
      many = omega (arith, many, ap (λ (l : List EntryLine). length l) items, length-append at.lines.items (line ∷ []));
      room = omega (arith, room, c.push_reserved.ensures.capacity);
    }

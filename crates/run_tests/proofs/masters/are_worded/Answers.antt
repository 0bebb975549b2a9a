use Rattle.std.proofs.Common.{subst, ◌∙◌}
use Rattle.std.specs.Prelude.{All}
use Rattle.std.specs.Option.{IsSome}
use Rattle.std.proofs.lemmas.List.{take_all}
use Rattle.std.proofs.lemmas.List.Elements.{All-more}
use Rattle.journal.specs.declared.command.Entry.{Entry}
use Rattle.live_model.specs.Printed.{told_entry}
use Rattle.run_tests.proofs.masters.are_worded.Goals as goal

pub loop-entry-preserved : goal.loop-entry-preserved
loop-entry-preserved c =
    All-more (λ (e : Entry). IsSome (told_entry c.args.closed.now.opening e)) c.journal-entry-items.result.now c.loop-entry.entry-index _ c.loop-entry-test.true
    c.loop-entry.invariant (c.is_worded.ensures c.if-not-is_worded.false c.args.closed.now.opening)

pub returns : goal.returns
returns c = λ yes.
    subst (All (λ (e : Entry). IsSome (told_entry c.args.closed.now.opening e)))
    (take_all c.loop-entry.entry-index c.journal-entry-items.result.now c.loop-entry-test.false ∙ c.journal-entry-items.ensures.journal) c.loop-entry.invariant

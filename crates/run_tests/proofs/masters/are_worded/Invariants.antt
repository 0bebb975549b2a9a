-- the entries so far have words
use Rattle.std.proofs.Common.{take}
use Rattle.std.specs.Prelude.{All}
use Rattle.std.specs.Option.{IsSome}
use Rattle.journal.specs.declared.command.Entry.{Entry}
use Rattle.live_model.specs.Printed.{told_entry}
use Rattle.run_tests.proofs.masters.are_worded.Given as goal

abbrev pub invariant-loop-entry : goal.invariant-loop-entry
invariant-loop-entry l = All (λ (e : Entry). IsSome (told_entry l.closed.opening e)) (take l.entry-index l.entry-items)

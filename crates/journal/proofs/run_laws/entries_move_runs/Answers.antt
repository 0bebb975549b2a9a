use Rattle.journal.proofs.MovingEntries.{by_closing, by_note, by_opening, by_skip}
use Rattle.journal.proofs.run_laws.entries_move_runs.Goals as goal

pub returns-clause-opened : goal.returns-clause-opened
returns-clause-opened c = by_opening

pub returns-clause-noted : goal.returns-clause-noted
returns-clause-noted c = by_note

pub returns-clause-closed : goal.returns-clause-closed
returns-clause-closed c = by_closing

pub returns-clause-skipped : goal.returns-clause-skipped
returns-clause-skipped c = by_skip

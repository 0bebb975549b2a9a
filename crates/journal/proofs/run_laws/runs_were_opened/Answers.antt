use Rattle.journal.proofs.WereOpened.{open_was_opened, openings_are, were_opened}
use Rattle.journal.proofs.run_laws.runs_were_opened.Goals as goal

pub returns-clause-closed : goal.returns-clause-closed
returns-clause-closed c = λ o journal legal. (were_opened o journal legal).1

pub returns-clause-open : goal.returns-clause-open
returns-clause-open c = open_was_opened

pub returns-clause-opened : goal.returns-clause-opened
returns-clause-opened c = openings_are

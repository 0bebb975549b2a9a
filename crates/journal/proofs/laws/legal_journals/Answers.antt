use Rattle.std.proofs.Common.{[]}
use Rattle.journal.proofs.Legal.{full_is, legal_after, legal_fits, legal_front, legal_snoc}
use Rattle.journal.proofs.Versions.{legal_there}
use Rattle.journal.proofs.laws.legal_journals.Goals as goal

pub returns-clause-beginning : goal.returns-clause-beginning
returns-clause-beginning c = λ o journal more legal. legal_front o [] journal more legal

pub returns-clause-entry : goal.returns-clause-entry
returns-clause-entry c = legal_snoc

pub returns-clause-command : goal.returns-clause-command
returns-clause-command c = legal_after

pub returns-clause-there : goal.returns-clause-there
returns-clause-there c = legal_there

pub returns-clause-full : goal.returns-clause-full
returns-clause-full c = full_is

pub returns-clause-fits : goal.returns-clause-fits
returns-clause-fits c = legal_fits

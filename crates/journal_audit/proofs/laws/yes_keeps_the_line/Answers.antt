use Rattle.coflow_units.proofs.ServedLaws.{grants_patient}
use Rattle.journal.specs.Fold.{state_of}
use Rattle.journal.specs.Journal.{line_of}
use Rattle.journal.specs.State.{owed}
use Rattle.journal.proofs.WereOpened.{were_opened}
use Rattle.journal_audit.specs.Stated.{journal_in, opening_for}
use Rattle.journal_audit.proofs.YesSteps.{yes_clear, yes_slots, yes_within}
use Rattle.journal_audit.proofs.laws.yes_keeps_the_line.Goals as goal

pub returns-clause-slots : goal.returns-clause-slots
returns-clause-slots c = λ t weights l live right. yes_slots t weights l live right

pub returns-clause-opened : goal.returns-clause-opened
returns-clause-opened c = λ t weights l right. (were_opened (opening_for t weights l) (journal_in t l) right.legal).1

pub returns-clause-patient : goal.returns-clause-patient
returns-clause-patient c = λ t weights l r f x lt in_line owes.
    let o = opening_for t weights l in
    grants_patient t.flows (line_of o x.before) (owed o (state_of o x.before)) r.granted f x.grants lt in_line owes

pub returns-clause-once : goal.returns-clause-once
returns-clause-once c = λ t weights l live right. yes_clear t weights l live right

pub returns-clause-within : goal.returns-clause-within
returns-clause-within c = λ t weights l f live right. yes_within t weights l live right f

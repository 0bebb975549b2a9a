use Rattle.journal_audit.specs.Stated.{opening_for}
use Rattle.journal_audit.proofs.Refusals.{none_of_right}
use Rattle.journal_audit.proofs.laws.right_journals_have_no_reason.Goals as goal

pub returns : goal.returns
returns c = λ t weights l reason right has. none_of_right (opening_for t weights l) l reason right has

use Rattle.journal.proofs.Present.{line_present}
use Rattle.journal.proofs.laws.line_is_present.Goals as goal

pub returns : goal.returns
returns c = line_present

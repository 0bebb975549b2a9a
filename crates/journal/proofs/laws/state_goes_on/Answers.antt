use Rattle.journal.proofs.Growth.{state_after, state_snoc}
use Rattle.journal.proofs.laws.state_goes_on.Goals as goal

pub returns-clause-entry : goal.returns-clause-entry
returns-clause-entry c = state_snoc

pub returns-clause-command : goal.returns-clause-command
returns-clause-command c = state_after

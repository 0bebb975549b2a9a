use Rattle.live_rounds.proofs.Acting.{acted_on}
use Rattle.live_rounds.proofs.ActsTold.{raised_acted}
use Rattle.live_rounds.proofs.laws.sessions_go_on.Goals as goal

pub returns-clause-level : goal.returns-clause-level
returns-clause-level c = raised_acted

pub returns-clause-rounds : goal.returns-clause-rounds
returns-clause-rounds c = acted_on

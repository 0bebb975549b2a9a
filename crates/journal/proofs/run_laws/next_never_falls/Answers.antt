use Rattle.journal.proofs.Schedules.{next_never_falls}
use Rattle.journal.proofs.run_laws.next_never_falls.Goals as goal

pub returns : goal.returns
returns c = next_never_falls

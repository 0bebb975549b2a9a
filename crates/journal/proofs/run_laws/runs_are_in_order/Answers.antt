use Rattle.journal.proofs.RunsInOrder.{closed_sound}
use Rattle.journal.proofs.run_laws.runs_are_in_order.Goals as goal

pub returns : goal.returns
returns c = closed_sound

use Rattle.journal.proofs.UnderWay.{running}
use Rattle.journal.proofs.drive_laws.runs_under_way_are_open.Goals as goal

pub returns : goal.returns
returns c = running

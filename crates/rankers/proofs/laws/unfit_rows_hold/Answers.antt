use Rattle.rankers.proofs.UnfitRows.{unfit_rows}
use Rattle.rankers.proofs.laws.unfit_rows_hold.Goals as goal

pub returns : goal.returns
returns c = unfit_rows

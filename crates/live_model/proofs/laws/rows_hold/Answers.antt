use Rattle.live_model.proofs.HiddenRow.{hidden_holds}
use Rattle.live_model.proofs.AloneRow.{alone_holds}
use Rattle.live_model.proofs.BothRow.{both_holds}
use Rattle.live_model.proofs.laws.rows_hold.Goals as goal

pub returns-clause-alone : goal.returns-clause-alone
returns-clause-alone c = alone_holds

pub returns-clause-both : goal.returns-clause-both
returns-clause-both c = both_holds

pub returns-clause-hidden : goal.returns-clause-hidden
returns-clause-hidden c = hidden_holds

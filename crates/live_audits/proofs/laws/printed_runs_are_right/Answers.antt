use Rattle.live_audits.proofs.Right.{run_is_right}
use Rattle.live_audits.proofs.laws.printed_runs_are_right.Goals as goal

pub returns : goal.returns
returns c = λ o script most live journal wires once may run. run_is_right o script most live journal wires once may run

use Rattle.live_serving.proofs.RunningOut.{first_out, nothing_out, run_out}
use Rattle.live_serving.proofs.laws.drivers_run_out.Goals as goal

pub returns-clause-first : goal.returns-clause-first
returns-clause-first c = first_out

pub returns-clause-run : goal.returns-clause-run
returns-clause-run c = run_out

pub returns-clause-nothing : goal.returns-clause-nothing
returns-clause-nothing c = nothing_out

use Rattle.online_runs.proofs.AtTheEnd.{run_serves}
use Rattle.online_runs.proofs.laws.online_runs_serve_all.Goals as goal

pub returns : goal.returns
returns c = run_serves

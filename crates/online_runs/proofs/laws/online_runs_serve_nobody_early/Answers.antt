use Rattle.online_runs.proofs.AtTheEnd.{served_clear, served_early, served_times}
use Rattle.online_runs.proofs.laws.online_runs_serve_nobody_early.Goals as goal

pub returns-clause-early : goal.returns-clause-early
returns-clause-early c = served_early

pub returns-clause-clear : goal.returns-clause-clear
returns-clause-clear c = served_clear

pub returns-clause-times : goal.returns-clause-times
returns-clause-times c = served_times

use Rattle.live_rounds.proofs.DriversTold.{none_opened, nothing_opened, others_open_none, run_opened}
use Rattle.live_rounds.proofs.laws.drivers_open_runs.Goals as goal

pub returns-clause-first : goal.returns-clause-first
returns-clause-first c = none_opened

pub returns-clause-run : goal.returns-clause-run
returns-clause-run c = run_opened

pub returns-clause-nothing : goal.returns-clause-nothing
returns-clause-nothing c = nothing_opened

pub returns-clause-others : goal.returns-clause-others
returns-clause-others c = others_open_none

use Rattle.live_rounds.proofs.DriversTold.{nothing_lies_between, run_lies_between}
use Rattle.live_rounds.proofs.laws.openings_lie_between_levels.Goals as goal

pub returns-clause-run : goal.returns-clause-run
returns-clause-run c = run_lies_between

pub returns-clause-nothing : goal.returns-clause-nothing
returns-clause-nothing c = nothing_lies_between

use Rattle.live_serving.proofs.DrivenOn.{nothing_driven, none_driven, run_driven}
use Rattle.live_serving.proofs.laws.runs_stand_beside_rounds.Goals as goal

pub returns-clause-run : goal.returns-clause-run
returns-clause-run c = run_driven

pub returns-clause-nothing : goal.returns-clause-nothing
returns-clause-nothing c = nothing_driven

pub returns-clause-none : goal.returns-clause-none
returns-clause-none c = none_driven

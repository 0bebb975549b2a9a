use Rattle.world_model.proofs.Drawers.{drawn_by_agents, step_drawn}
use Rattle.world_model.proofs.laws.drawers_are_agents.Goals as goal

pub returns-clause-all : goal.returns-clause-all
returns-clause-all c = drawn_by_agents

pub returns-clause-step : goal.returns-clause-step
returns-clause-step c = step_drawn

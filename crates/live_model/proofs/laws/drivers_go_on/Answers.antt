use Rattle.live_model.proofs.DriverSteps.{driven_is_spell, nothing_is_spell}
use Rattle.live_model.proofs.laws.drivers_go_on.Goals as goal

pub returns-clause-driven : goal.returns-clause-driven
returns-clause-driven c = driven_is_spell

pub returns-clause-nothing : goal.returns-clause-nothing
returns-clause-nothing c = nothing_is_spell

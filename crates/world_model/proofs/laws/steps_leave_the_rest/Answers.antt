use Rattle.world_model.proofs.BusySteps.{busy_is, drawn_is_busy}
use Rattle.world_model.proofs.Legality.{opening_stays}
use Rattle.world_model.proofs.Refusals.{refused_leaves}
use Rattle.world_model.proofs.laws.steps_leave_the_rest.Goals as goal

pub returns-clause-busy : goal.returns-clause-busy
returns-clause-busy c = busy_is

pub returns-clause-drawn : goal.returns-clause-drawn
returns-clause-drawn c = drawn_is_busy

pub returns-clause-refused : goal.returns-clause-refused
returns-clause-refused c = refused_leaves

pub returns-clause-opening : goal.returns-clause-opening
returns-clause-opening c = opening_stays

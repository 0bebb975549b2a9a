use Rattle.std.proofs.Common.{subst}
use Rattle.world_model.specs.Lawful.{IsWorld}
use Rattle.world_model.proofs.LawfulWorlds.{closes_as_sent, opens_grants, opens_patiently}
use Rattle.world_model.proofs.world.World.journal.Goals as goal

pub returns-clause-credited : goal.returns-clause-credited
returns-clause-credited c = closes_as_sent c.args.self.now (subst IsWorld c.self.view_is c.self.invariant.0)

pub returns-clause-granted : goal.returns-clause-granted
returns-clause-granted c = opens_grants c.args.self.now (subst IsWorld c.self.view_is c.self.invariant.0)

pub returns-clause-patient : goal.returns-clause-patient
returns-clause-patient c = opens_patiently c.args.self.now

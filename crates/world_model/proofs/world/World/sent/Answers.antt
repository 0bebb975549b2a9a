use Rattle.std.proofs.Common.{subst}
use Rattle.world_model.specs.Lawful.{IsWorld}
use Rattle.world_model.proofs.LawfulWorlds.{sends_in_time, sends_once, sends_within}
use Rattle.world_model.proofs.world.World.sent.Goals as goal

pub returns-clause-once : goal.returns-clause-once
returns-clause-once c = sends_once c.args.self.now (subst IsWorld c.self.view_is c.self.invariant.0)

pub returns-clause-within : goal.returns-clause-within
returns-clause-within c = sends_within c.args.self.now (subst IsWorld c.self.view_is c.self.invariant.0)

pub returns-clause-in_time : goal.returns-clause-in_time
returns-clause-in_time c = sends_in_time c.args.self.now (subst IsWorld c.self.view_is c.self.invariant.0)

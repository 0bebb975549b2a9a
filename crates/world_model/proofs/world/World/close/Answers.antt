use Rattle.std.proofs.Common.{◌∙◌, sym}
use Rattle.world_model.proofs.Events.{close_keeps}
use Rattle.world_model.proofs.world.World.close.Goals as goal

pub carry_out-requires-clause-keeps : goal.carry_out-requires-clause-keeps
carry_out-requires-clause-keeps c = close_keeps c.args.self.now c.can_close.ensures.kept (sym c.can_close.ensures.may ∙ c.if-not-can_close.false)

use Rattle.std.proofs.Common.{refl, arith}
use Rattle.replays.proofs.ActionSteps.{leaves_low, left_tells}
use Rattle.replays.proofs.kept.Kept.leave.Goals as goal

pub index_mut-requires : goal.index_mut-requires
index_mut-requires c =
    let (x, m, at, does) = c.requires.may in
    omega (arith, leaves_low x m c.args.coflow c.args.self.now at does, at.tells.each.present)

pub returns-clause-tells : goal.returns-clause-tells
returns-clause-tells c = λ x m at does.
    left_tells x m c.args.coflow c.args.self.now _ at does refl refl refl refl c.leave.ensures.line c.leave.ensures.stale c.leave.ensures.grants refl refl

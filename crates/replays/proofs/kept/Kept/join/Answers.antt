use Rattle.std.proofs.Common.{refl}
use Rattle.replays.proofs.ActionSteps.{joined_tells}
use Rattle.replays.proofs.kept.Kept.join.Goals as goal

pub returns-clause-tells : goal.returns-clause-tells
returns-clause-tells c = λ x m at does.
    joined_tells x m c.args.coflow c.args.self.now _ at does refl refl refl refl c.in_ok-join.ensures.line c.in_ok-join.ensures.stale c.in_ok-join.ensures.grants refl refl

use Rattle.std.proofs.Common.{refl, arith}
use Rattle.replays.proofs.ActionSteps.{skipped_tells}
use Rattle.replays.proofs.Remaining.{skip_time}
use Rattle.replays.proofs.kept.Kept.skip.Goals as goal

pub overflow_sub-self : goal.overflow_sub-self
overflow_sub-self c =
    let (x, m, at, does) = c.requires.may in
    let (later, most, some) = skip_time x m c.args.to at.input at.holds does.applies in
    omega (arith, some)

pub returns-clause-tells : goal.returns-clause-tells
returns-clause-tells c = λ x m at does. skipped_tells x m c.args.to c.args.self.now _ at does refl refl refl refl refl refl refl c.in_ok-record_run.ensures

use Rattle.std.proofs.Common.{false, length, arith}
use Rattle.std.specs.Prelude.{◌||◌}
use Rattle.std.proofs.lemmas.List.FromFn.{fill_by_all}
use Rattle.epochs.specs.Course.{is_marked}
use Rattle.replays.specs.Kept.{is_untold}
use Rattle.replays.proofs.news.mark_told.Goals as goal

pub returns-clause-marks : goal.returns-clause-marks
returns-clause-marks c =
    let told = c.args.marks.now.told.items in
    fill_by_all (λ d. is_marked told d || is_untold c.args.marks.now c.args.progress.now d) c.loop-coflow.marks.told.items (length told) false
    c.loop-coflow.invariant.count (λ d lt. c.loop-coflow.invariant.marked d (omega (arith, lt, c.loop-coflow-test.false, c.len-coflow-end.ensures)))

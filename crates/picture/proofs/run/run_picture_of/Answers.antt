use Rattle.std.proofs.Common.{refl, sym, subst}
use Rattle.std.specs.Prelude.{length}
use Rattle.picture.specs.Curve.{IsCurve}
use Rattle.picture.proofs.RunSteps.{curve_within, ticks_within}
use Rattle.picture.proofs.run.run_picture_of.Goals as goal

pub returns-clause-drawable : goal.returns-clause-drawable
returns-clause-drawable c = record {
  span = c.requires.span;
  few = c.requires.few;
  arrivals = curve_within c.args.arrivals.now c.from_vec.result (length c.args.arrivals.now) refl (subst (IsCurve c.args.arrivals.now) (sym c.from_vec.ensures) c.in_ok-arrived.ensures);
  done = curve_within c.args.ends.now c.from_vec-2.result (length c.args.arrivals.now) c.requires.same (subst (IsCurve c.args.ends.now) (sym c.from_vec-2.ensures) c.in_ok-done.ensures);
  ticks = ticks_within c.args.span c.args.published.now c.in_ok-ticks.ticks c.in_ok-ticks.ensures;
  small_cost = c.requires.small;
}

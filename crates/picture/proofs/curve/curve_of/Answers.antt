use Rattle.std.proofs.Common.{ℕ, subst, sym}
use Rattle.std.specs.Prelude.{IsPermutation}
use Rattle.std.specs.List.Sorted.{IsNonDecreasingBy}
use Rattle.std.proofs.lemmas.List.Sorted.{IsNonDecreasingBy-from_sort}
use Rattle.picture.specs.Curve.{IsCurve}
use Rattle.picture.proofs.CurveSteps.{other_order}
use Rattle.picture.proofs.curve.curve_of.Goals as goal

pub steps_of-requires : goal.steps_of-requires
steps_of-requires c = record {
  sorted = subst (IsNonDecreasingBy (λ (end : ℕ). end)) (sym c.deref.ensures.value)
      (IsNonDecreasingBy-from_sort (λ end. end) c.sort_unstable.new.self.items c.sort_unstable.ensures.sorted);
}

pub returns : goal.returns
returns c =
    let sorted = c.sort_unstable.new.self.items in
    let moved : IsPermutation c.args.ends.now sorted = subst (λ l. IsPermutation l sorted) c.in_ok-sorted.ensures.items c.sort_unstable.ensures.permutation in
    let curve : IsCurve sorted c.in_ok-steps.steps.items = subst (λ l. IsCurve l c.in_ok-steps.steps.items) c.deref.ensures.value c.in_ok-steps.ensures in
    other_order c.args.ends.now sorted c.in_ok-steps.steps.items moved curve

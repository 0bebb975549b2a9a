use Rattle.std.proofs.Common.{ℕ, List, get_or, take, take_all, true≢false, subst, sym, ◌∙◌}
use Rattle.coflow_units.specs.Flows.{IsDistinct}
use Rattle.coflow_units.proofs.Sums.{any_in}
use Rattle.greedy_rates.proofs.TestSteps.{distinct_more}
use Rattle.plan_tests.proofs.served.is_distinct.Goals as goal

pub loop-place-preserved : goal.loop-place-preserved
loop-place-preserved c =
    let k = c.loop-place.place in
    let line = c.args.order.now in
    distinct_more line k c.loop-place-test.true c.loop-place.invariant
    (λ has. true≢false (sym (any_in (take k line) (get_or line k 0) has) ∙ sym c.contains.ensures.value ∙ c.if-contains.false))

pub returns : goal.returns
returns c = λ _. subst (λ (xs : List ℕ). IsDistinct xs) (take_all c.loop-place.place c.args.order.now c.loop-place-test.false) c.loop-place.invariant

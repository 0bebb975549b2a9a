use Rattle.std.proofs.Common.{ℕ, List, get_or, subst, sym, ◌∙◌}
use Rattle.std.specs.Prelude.{All, ◌≤◌}
use Rattle.std.proofs.lemmas.List.{take_all}
use Rattle.greedy_rates.proofs.ListSteps.{least_below, least_reached, not_nothing}
use Rattle.greedy_rates.proofs.pass.least_left.Goals as goal

pub loop-flow-preserved : goal.loop-flow-preserved
loop-flow-preserved c = record {
  below = least_below c.args.left.now c.args.granted.now c.loop-flow.flow-index c.loop-flow.least c.min-least.result c.loop-flow-test.true c.min-least.ensures
      c.loop-flow.invariant.below;
  reached = least_reached c.args.left.now c.args.granted.now c.loop-flow.flow-index c.loop-flow.least c.min-least.result c.loop-flow-test.true c.min-least.ensures
      c.loop-flow.invariant.reached;
}

pub returns : goal.returns
returns c = record {
  none = λ e. absurd (not_nothing c.args.granted.now (sym c.is_empty.ensures ∙ c.if-is_empty.false) e);
  below = subst (λ (xs : List ℕ). All (λ (f : ℕ). c.loop-flow.least ≤ get_or c.args.left.now f 0) xs) (take_all c.loop-flow.flow-index c.args.granted.now c.loop-flow-test.false)
      c.loop-flow.invariant.below;
  reached = λ _. c.loop-flow.invariant.reached;
}

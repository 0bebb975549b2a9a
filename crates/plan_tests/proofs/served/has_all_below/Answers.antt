-- The next coflow is in the order.
use Rattle.std.proofs.Common.{ℕ, inl, inr, Contains, subst, sym, ◌∙◌, arith}
use Rattle.std.proofs.lemmas.Bool.{cases_eq}
use Rattle.coflow_units.proofs.Sums.{any_has}
use Rattle.plan_tests.proofs.served.has_all_below.Goals as goal

pub loop-coflow-preserved : goal.loop-coflow-preserved
loop-coflow-preserved c = λ d lt. elim (cases_eq d c.loop-coflow.coflow-counter) [
  | inl e ↦ subst (λ (n : ℕ). Contains c.args.order.now n) (sym e) (any_has c.args.order.now c.loop-coflow.coflow-counter (sym c.contains.ensures.value ∙ c.if-contains.true))
  | inr ne ↦ c.loop-coflow.invariant d (omega (arith, lt, ne))
]

use Rattle.std.proofs.Common.{◌≡◌, ◌-◌, inl, inr, Contains, subst, ◌∙◌, arith}
use Rattle.std.proofs.lemmas.Bool.{cases_lt}
use Rattle.matching.proofs.stack.Stack.push_below.Goals as goal

pub below-preserved : goal.below-preserved
below-preserved c =
    let before = c.below.invariant in
    record {
      room = c.push.ensures.room ∙ before.room;
      within = omega (arith, before.within);
      all = λ p le lt. elim (cases_lt p c.below.port) [
        | inl less ↦ let e : c.below.port - 1 ≡ p = omega (arith, le, less) in subst (λ x. Contains c.push.new.self.ports x) e c.push.ensures.pushed.has
        | inr more ↦ c.push.ensures.pushed.keeps p (before.all p more lt)
      ];
    }

use Rattle.std.proofs.Common.{◌≡◌, inl, inr, Contains, subst, ◌∙◌, arith}
use Rattle.std.proofs.lemmas.Bool.{cases_lt}
use Rattle.matching.proofs.board.Board.clear.Goals as goal

pub loop-port-preserved : goal.loop-port-preserved
loop-port-preserved c =
    let before = c.loop-port.invariant in
    record {
      room = c.push.ensures.room ∙ before.room;
      len = before.len;
      none = before.none;
      all = λ p lt. elim (cases_lt p c.loop-port.port) [
        | inl less ↦ c.push.ensures.pushed.keeps p (before.all p less)
        | inr more ↦ let e : c.loop-port.port ≡ p = omega (arith, lt, more) in subst (λ x. Contains c.push.new.self.ports x) e c.push.ensures.pushed.has
      ];
    }

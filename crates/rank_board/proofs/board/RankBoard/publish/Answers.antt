use Rattle.std.proofs.Common.{rules, ◌+◌, ◌*◌, ◌<◌, ◌∙◌, sym, ap, subst, length}
use Rattle.rank_board.proofs.Views.{M}
use Rattle.rank_board.proofs.Writing.{raises_on}
use Rattle.rank_board.proofs.board.RankBoard.publish.Goals as goal

pub write_bank-requires-clause-words : goal.write_bank-requires-clause-words
write_bank-requires-clause-words c =
    let e = sym (c.requires.ranks ∙ sym (ap (λ b. b.coflows) c.self.view_is)) in
    (c.self.invariant.0 ∙ ap (λ z. 1 + 2 * z) e, c.self.invariant.1 ∙ e, subst (λ z. z < 4294967296) e c.self.invariant.2)

pub store-requires-clause-allowed : goal.store-requires-clause-allowed
store-requires-clause-allowed c =
    let w = c.write_bank.ensures.written in
    let e = c.requires.ranks ∙ sym (ap (λ b. b.coflows) c.self.view_is) in
    let version = ap (λ z. z + 1) (sym c.publisher.invariant.2) ∙ ap (λ (m : M). length m.0.published + 1) (sym w) in
    raises_on _ _ _ _ _ (ap (λ (m : M). m.0.publishes) w ∙ c.publisher.invariant.0) (ap (λ (m : M). length m.0.next) w ∙ (e ∙ sym c.self.invariant.1)) (c.from.ensures ∙ version)
    (search rules)

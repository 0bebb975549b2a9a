use Rattle.std.proofs.Common.{rules, ◌+◌, ◌∙◌, sym, ap, length}
use Rattle.std.proofs.lemmas.List.{length-take-le}
use Rattle.rank_board.specs.Words.{word_at, rank_word}
use Rattle.rank_board.proofs.Views.{M}
use Rattle.rank_board.proofs.Writing.{writes_on}
use Rattle.rank_board.proofs.board.write_bank.Goals as goal

pub store-requires-clause-allowed : goal.store-requires-clause-allowed
store-requires-clause-allowed c =
    let e = c.loop-coflow.invariant.1 in
    let n = c.requires.next in
    let version = n.2 ∙ ap (λ (m : M). length m.0.published + 1) (sym e) in
    let count = sym (ap (λ (m : M). length m.0.next) e ∙ length-take-le c.loop-coflow.coflow c.args.ranks.now (search rules)) in
    writes_on _ _ _ _ _ c.loop-coflow.coflow c.from-in-loop-coflow.result _ (ap (λ (m : M). m.0.publishes) e ∙ n.0) count (search rules) (search rules)
    (c.place_of.ensures ∙ ap (λ v. word_at v c.loop-coflow.coflow) version) (ap (λ v. rank_word v c.from-in-loop-coflow.result) (c.from.ensures ∙ version))

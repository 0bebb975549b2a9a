use Rattle.std.proofs.Common.{◌∙◌, sym, ap, subst, length}
use Rattle.std.specs.Prelude.{All}
use Rattle.rank_board.specs.Pulls.{IsRead}
use Rattle.rank_board.proofs.Views.{M}
use Rattle.rank_board.proofs.Reading.{meets_on}
use Rattle.rank_board.proofs.Pulling.{still_read}
use Rattle.rank_board.proofs.board.RankBoard.meet.Goals as goal

pub load-requires-clause-allowed : goal.load-requires-clause-allowed
load-requires-clause-allowed c =
    let e = c.hand_on.ensures.to in
    meets_on _ _ _ _ (ap (λ (m : M). m.0.publishes) e) (ap (λ (m : M). m.0.next) e ∙ c.publisher.invariant.1)

pub invariant_of-seat : goal.invariant_of-seat
invariant_of-seat c =
    let e = c.hand_on.ensures.to in
    let l = c.load.ensures.told in
    let f = c.hand_on-2.ensures.from in (
      ap (λ (m : M). m.0.seen) f ∙ (ap (λ (m : M). m.0.seen) l.0 ∙ (l.1 ∙ (ap (λ (m : M). length m.0.published) e ∙ c.publisher.invariant.2))),
      still_read _ _ _ _ (ap (λ (m : M). m.0.looks) f ∙ ap (λ (m : M). m.0.looks) l.0)
          (subst (λ (m : M). All (IsRead m.0.looks) c.seat.inside.pulls.list) (sym e) c.seat.invariant.1),
    )

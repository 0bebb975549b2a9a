use Rattle.std.proofs.Common.{ap, sym, subst, ◌∙◌}
use Rattle.std.specs.Prelude.{All}
use Rattle.rank_board.specs.Pulls.{IsRead}
use Rattle.rank_board.proofs.Views.{M}
use Rattle.rank_board.proofs.Reading.{looks_on}
use Rattle.rank_board.proofs.Seats.{makes_another, hears_note}
use Rattle.rank_board.proofs.Pulling.{still_read}
use Rattle.rank_board.proofs.board.RankBoard.tell.Goals as goal

pub split_seat-note-requires-clause-allowed : goal.split_seat-note-requires-clause-allowed
split_seat-note-requires-clause-allowed c = makes_another _ _ _

pub join_seat-requires-clause-allowed : goal.join_seat-requires-clause-allowed
join_seat-requires-clause-allowed c = hears_note _ _ _ _ _

pub load-front-requires-clause-allowed : goal.load-front-requires-clause-allowed
load-front-requires-clause-allowed c = looks_on _ _ _ _

pub invariant_of-from : goal.invariant_of-from
invariant_of-from c = let e = c.split_seat-note.ensures.seat in
    (ap (λ (m : M). m.0.seen) e ∙ c.from.invariant.0, subst (λ (m : M). All (IsRead m.0.looks) c.from.inside.pulls.list) (sym e) c.from.invariant.1)

pub invariant_of-to : goal.invariant_of-to
invariant_of-to c =
    let e = c.load-front.ensures.told.0 in
    let h = c.join_seat.ensures.seat in
    (ap (λ (m : M). m.0.seen) e, still_read _ _ _ _ (ap (λ (m : M). m.0.looks) e) (subst (λ (m : M). All (IsRead m.0.looks) c.to.inside.pulls.list) (sym h) c.to.invariant.1))

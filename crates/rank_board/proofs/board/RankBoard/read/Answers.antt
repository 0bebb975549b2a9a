use Rattle.std.proofs.Common.{rules, ◌≡◌, ℕ, ◌∷◌, ◌++◌, [], subst, ◌/◌, ◌%◌, ◌∙◌, sym, ap, arith}
use Rattle.std.specs.Prelude.{All}
use Rattle.rank_board.specs.declared.board.Pulled.{Pulled}
use Rattle.rank_board.specs.declared.board.RankSeat.TheInside.{Inside}
use Rattle.rank_board.specs.Pulls.{IsRead, pull_of}
use Rattle.rank_board.specs.Words.{word_at, rank_word}
use Rattle.rank_board.specs.Models.{saw_word}
use Rattle.rank_board.proofs.Views.{M}
use Rattle.rank_board.proofs.Reading.{reads_on}
use Rattle.rank_board.proofs.Pulling.{still_read, front_of, found_of, saw_it, read_kept, none_kept}
use Rattle.rank_board.proofs.board.RankBoard.read.Goals as goal
use Rattle.rank_board.proofs.board.RankBoard.read.Goals.{then-version-gt0+else-found-version, else-version-gt0}

pub load-word-requires-clause-allowed : goal.load-word-requires-clause-allowed
load-word-requires-clause-allowed c =
    reads_on _ _ _ _ _ c.args.coflow (search rules) (c.place_of-place.ensures ∙ ap (λ v. word_at v c.args.coflow) (sym c.seat.invariant.0))

pub invariant_of-seat : goal.invariant_of-seat
invariant_of-seat c = let e = c.load-word.ensures.told.0 in
    (ap (λ (m : M). m.0.seen) e ∙ c.seat.invariant.0, still_read _ _ _ _ (ap (λ (m : M). m.0.looks) e) c.seat.invariant.1)

pub returns-then-found-version-clause-moved : goal.returns-then-found-version-clause-moved
returns-then-found-version-clause-moved c = λ front found e.
    let word : ℕ = c.load-word.result in
    let a : c.seat.inside.seen ≡ front = ap (λ (p : Pulled). front_of p) e in
    let b : word / 4294967296 ≡ found = ap (λ (p : Pulled). found_of p) e in
    let l = c.load-word.ensures.told in
    let known = c.seat.invariant.0 in
    let pos = c.if-version-gt0.true in
    let later = c.if-found-version.true in
    let even = l.2 in
    let w : word ≡ rank_word found (word % 4294967296) = omega arith in (
      omega arith,
      sym a ∙ ap (λ s. s.seen) c.seat.view_is,
      omega arith,
      (
        word % 4294967296,
        omega arith,
        saw_it _ _ _ _ _ _ _ _ _ c.args.coflow word c.load-word.ensures.own.0 c.load-word.ensures.own.1 pos (ap (λ (m : M). m.0.looks) l.0) c.place_of-place.ensures
            ∙ (λ i. saw_word (a i) c.args.coflow (w i) (c.seat.view_is i)),
      ),
    )

pub invariant_of-seat-2 : goal.invariant_of-seat-2
invariant_of-seat-2 c = elim c.if-version-gt0.branch [
  | then-version-gt0+else-found-version w ↦ (
      let e = w.load-word.ensures.told in
      let known = c.seat.invariant.0 in
      let below = e.1 in
      let above = w.if-found-version.false in
      let same : c.seat.inside.seen ≡ w.load-word.result / 4294967296 = omega arith in
      subst (λ (x : Inside). (x.place.me.0.seen ≡ x.seen) × All (IsRead x.place.me.0.looks) c.then-seat-inside.result.list) (sym w.seat-inside-is) (
        ap (λ (m : M). m.0.seen) e.0 ∙ known,
        read_kept _ _ c.seat.inside.pulls.list _ _ w.load-word.result c.seat.inside.seen c.args.coflow c.if-version-gt0.rank c.args.mark (ap (λ (m : M). m.0.looks) e.0)
            w.place_of-place.ensures
            w.if-version-gt0.true same w.rank-is
            (c.then-seat-inside.ensures ∙ ap (λ (x : Inside). x.pulls.list ++ pull_of c.seat.inside.seen c.args.coflow c.if-version-gt0.rank c.args.mark ∷ []) w.seat-inside-is)
            c.seat.invariant.1,
      )
      )
  | else-version-gt0 w ↦ (
      let z = w.if-version-gt0.false in
      subst (λ (x : Inside). (x.place.me.0.seen ≡ x.seen) × All (IsRead x.place.me.0.looks) c.then-seat-inside.result.list) (sym w.seat-inside-is) (
        c.seat.invariant.0,
        none_kept _ c.seat.inside.pulls.list _ c.seat.inside.seen c.args.coflow c.if-version-gt0.rank c.args.mark (omega arith) w.rank-is
            (c.then-seat-inside.ensures ∙ ap (λ (x : Inside). x.pulls.list ++ pull_of c.seat.inside.seen c.args.coflow c.if-version-gt0.rank c.args.mark ∷ []) w.seat-inside-is)
            c.seat.invariant.1,
      )
      )
]

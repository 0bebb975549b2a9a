-- Ranks of a version, and words that were written, as more is written and published.
use Rattle.std.proofs.Common.{◌≡◌, inl, inr, ℕ, zero, suc, ◌+◌, ◌/◌, ◌%◌, ◌<◌, ◌≤◌, List, [], ◌∷◌, ◌++◌, length, get_or, sym, refl, ap, ◌∙◌, subst, ⊎_elim, arith, length-append}
use Rattle.std.specs.Prelude.{All, Contains}
use Rattle.std.proofs.lemmas.List.Elements.{All-contains}
use mathlib.Core.Logic.{dite}
use native.Mathlib.Decide.{ℕ_discrete, dec_le}
use Rattle.rank_board.specs.declared.pulls.Pull.{Pull}
use Rattle.rank_board.specs.Words.{word_at, coflow_at, rank_word, rank_of, WasPublished}
use Rattle.rank_board.specs.Pulls.{IsRead, Agrees}
use Rattle.rank_board.specs.Banks.{IsNext, WasWritten}

module _ {A : Type 0} where
  pub at_last : (d : A) (xs : List A) (x : A) (i : ℕ) → i ≡ length xs → get_or (xs ++ x ∷ []) i d ≡ x
  at_last d [] x zero e = refl
  at_last d [] x (suc i) e = absurd (omega arith)
  at_last d (y ∷ ys) x zero e = absurd (omega arith)
  at_last d (y ∷ ys) x (suc i) e = at_last d ys x i (omega arith)

  pub at_first : (d : A) (xs ys : List A) (i : ℕ) → i < length xs → get_or (xs ++ ys) i d ≡ get_or xs i d
  at_first d [] ys i l = absurd (omega arith)
  at_first d (x ∷ xs) ys zero l = refl
  at_first d (x ∷ xs) ys (suc i) l = at_first d xs ys i (omega arith)

  pub at_none : (d : A) (xs : List A) (i : ℕ) → length xs ≤ i → get_or xs i d ≡ d
  at_none d [] i l = refl
  at_none d (x ∷ xs) zero l = absurd (omega arith)
  at_none d (x ∷ xs) (suc i) l = at_none d xs i (omega arith)

module _ (published : List (List ℕ)) (next : List ℕ) where
  abbrev more : List (List ℕ)
  more = published ++ next ∷ []

  pub longer : length more ≡ length published + 1
  longer = length-append published (next ∷ [])

  -- an older version has its ranks still, and the new one has those that were written
  pub rank_stays : (v c : ℕ) → v ≤ length published → rank_of more v c ≡ rank_of published v c
  rank_stays v c l = ap (λ (r : List ℕ). get_or r c 0) (at_first [] ([] ∷ published) (next ∷ []) v (omega arith))

  pub rank_new : (v c : ℕ) → v ≡ length published + 1 → rank_of more v c ≡ get_or next c 0
  rank_new v c e = ap (λ (r : List ℕ). get_or r c 0) (at_last [] ([] ∷ published) next v (omega arith))

  pub rank_none : (v c : ℕ) → length published + 1 < v → rank_of more v c ≡ 0
  rank_none v c l = ap (λ (r : List ℕ). get_or r c 0) (at_none [] ([] ∷ more) v (let e = longer in omega arith))

  pub small_stays : ((v c : ℕ) → rank_of published v c < 4294967296) → ((c : ℕ) → c < length next → get_or next c 0 < 4294967296) → (v c : ℕ) → rank_of more v c < 4294967296
  small_stays small written v c = dite (dec_le v (length published))
      (λ l. subst (λ (z : ℕ). z < 4294967296) (sym (rank_stays v c l)) (small v c))
      (λ g. dite (ℕ_discrete v (length published + 1))
      (λ e. subst (λ (z : ℕ). z < 4294967296) (sym (rank_new v c e)) (dite (dec_le (length next) c)
      (λ past. subst (λ (z : ℕ). z < 4294967296) (sym (at_none 0 next c past)) (omega arith))
      (λ within. written c (omega arith))))
      (λ o. subst (λ (z : ℕ). z < 4294967296) (sym (rank_none v c (omega arith))) (omega arith)))

  -- what was published stays published, and what was written is published with the version
  pub published_stays : (look : ℕ × ℕ) → WasPublished published look → WasPublished more look
  published_stays look was = record {
    front = λ e. let l = was.front e in let m = longer in omega arith;
    rank = λ p. let r = was.rank p in let below = r.0 in let m = longer in (omega arith, r.1 ∙ sym (rank_stays (look.1 / 4294967296) (coflow_at look.0) below));
  }

  pub next_published : (look : ℕ × ℕ) → IsNext published next look → WasPublished more look
  next_published look is = let pos = is.0 in record {
    front = λ e. absurd (omega arith);
    rank = λ p. let v = is.1 in let m = longer in (omega arith, is.3 ∙ sym (rank_new (look.1 / 4294967296) (coflow_at look.0) is.1));
  }

  pub all_published : (look : ℕ × ℕ) → WasWritten published next look → WasPublished more look
  all_published look was = ⊎_elim (λ (t : WasPublished published look). published_stays look t) (λ (t : IsNext published next look). next_published look t) was

  -- one more word of the next version
  pub writes_more : (rank : ℕ) (look : ℕ × ℕ) → WasWritten published next look → WasWritten published (next ++ rank ∷ []) look
  writes_more rank look was = ⊎_elim (λ (t : WasPublished published look). inl t)
      (λ (t : IsNext published next look). let l = t.2 in let m = length-append next (rank ∷ []) in
      inr (t.0, t.1, omega arith, t.3 ∙ sym (at_first 0 next (rank ∷ []) (coflow_at look.0) t.2)))
      was

-- where nothing of the next version is written, all was published
pub none_next : (published : List (List ℕ)) (next : List ℕ) (look : ℕ × ℕ) → next ≡ [] → WasWritten published next look → WasPublished published look
none_next published next look none was = ⊎_elim (λ (t : WasPublished published look). t)
    (λ (t : IsNext published next look). let l = t.2 in let e : length next ≡ 0 = ap (λ (z : List ℕ). length z) none in absurd (omega arith)) was

-- a pull that stands in looks which were published agrees with what was published
pub read_agrees : (published : List (List ℕ)) (looks : List (ℕ × ℕ)) → All (WasPublished published) looks → (p : Pull) → IsRead looks p → Agrees published p
read_agrees published looks all p is = ⊎_elim
    (λ (t : (p.version ≡ 0) × (p.rank ≡ 0)). let z = t.0 in (omega arith, t.1 ∙ sym (ap (λ (v : ℕ). rank_of published v p.coflow) t.0)))
    (λ (t : (0 < p.version) × (p.rank < 4294967296) × Contains looks (word_at p.version p.coflow, rank_word p.version p.rank)).
    let was = All-contains (WasPublished published) looks (word_at p.version p.coflow, rank_word p.version p.rank) all t.2 in
    let small = t.1 in
    let r = was.rank (omega arith) in
    let v : rank_word p.version p.rank / 4294967296 ≡ p.version = omega arith in
    let c : coflow_at (word_at p.version p.coflow) ≡ p.coflow = omega arith in
    let k : rank_word p.version p.rank % 4294967296 ≡ p.rank = omega arith in (
      subst (λ (z : ℕ). z ≤ length published) v r.0,
      sym k ∙ (r.1 ∙ (λ i. rank_of published (v i) (c i))),
    ))
    is

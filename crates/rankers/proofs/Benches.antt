-- A bench, and the rows of the rankers that were taken off it.
use Rattle.std.proofs.Common.{◌≡◌, ℕ, ◌+◌, ◌<◌, List, [], ◌∷◌, ◌++◌, append_assoc, append-nil, drop, get_or, length, take, refl}
use Rattle.std.proofs.Common.{sym, ap, subst, ◌∙◌, arith}
use Rattle.std.specs.Prelude.{All, map}
use Rattle.std.proofs.lemmas.List.{drop-drop, get_or-drop, length-drop, take_more}
use Rattle.std.proofs.lemmas.List.Elements.{All-push}
use Rattle.coflow_units.specs.Flows.{Instance}
use Rattle.rankers.specs.declared.row.Row.{Row}
use Rattle.rankers.specs.declared.row.Scored.{Scored}
use Rattle.rankers.specs.FactsTold.{FactsTold}
use Rattle.rankers.specs.Meaning.{Meaning}
use Rattle.rankers.specs.Rounds.{IsRounds, IsRowsFrom}

pub first_taken : {X : Type 0} (xs new : List X) (x : X) → 0 < length xs → x ≡ get_or xs 0 x → new ≡ drop 1 xs → xs ≡ x ∷ new
first_taken [] new x some is rest = absurd (omega (arith, some))
first_taken (y ∷ ys) new x some is rest = ap (λ z. z ∷ ys) (sym is) ∙ ap (λ zs. x ∷ zs) (sym rest)

pub next_left : {X : Type 0} (all now new : List X) (index : ℕ) (x : X) → now ≡ drop index all → now ≡ x ∷ new → new ≡ drop (index + 1) all
next_left all now new index x left taken = ap (drop 1) (sym taken ∙ left) ∙ drop-drop 1 index all

-- those that were reached, and the next one
pub next_reached : {X : Type 0} (P : X → Type 0) (all now new : List X) (index : ℕ) (x : X) → now ≡ drop index all → now ≡ x ∷ new → All P (take index all) → P x →
    All P (take (index + 1) all)
next_reached P all now new index x left taken before here =
    let is : drop index all ≡ x ∷ new = sym left ∙ taken in
    let lt : index < length all = omega (arith, ap (λ xs. length xs) is, length-drop index all) in
    let e : index ≡ index + 0 = omega arith in
    let at : get_or all index x ≡ x = ap (λ k. get_or all k x) e ∙ sym (get_or-drop index all 0 x) ∙ ap (λ xs. get_or xs 0 x) is in
    subst (All P) (sym (take_more all index x lt ∙ ap (λ z. take index all ++ z ∷ []) at)) (All-push P (take index all) x before here)

-- what is on the bench, and what was done with the others
pub some_left : {X : Type 0} (P : X → Type 0) (all now new : List X) (index : ℕ) (x : X) → now ≡ drop index all → now ≡ x ∷ new → All P (take index all) → P x →
    (reached : ℕ) × (new ≡ drop reached all) × All P (take reached all)
some_left P all now new index x left taken before here =
    (index + 1, next_left all now new index x left taken, next_reached P all now new index x left taken before here)

rows_pushed : (rows once twice tail : List Row) (r s : Row) → once ≡ rows ++ r ∷ [] → twice ≡ once ++ s ∷ [] → twice ++ tail ≡ rows ++ (r ∷ s ∷ tail)
rows_pushed rows once twice tail r s e f =
    ap (λ xs. xs ++ tail) (f ∙ ap (λ xs. xs ++ s ∷ []) e) ∙ append_assoc (rows ++ r ∷ []) (s ∷ []) tail ∙ append_assoc rows (r ∷ []) (s ∷ tail)

pub bench_step : {X : Type 0} (meaning : X → Meaning) (i : Instance) (facts : FactsTold) (index : ℕ) (all now new : List X) (x : X)
    (rows once twice : List Row) (first second : Scored) → now ≡ x ∷ new → IsRounds i facts (meaning x) first second →
    ((tail : List Row) → IsRowsFrom i facts index (map meaning now) tail → IsRowsFrom i facts 1 (map meaning all) (rows ++ tail)) →
    once ≡ rows ++ record { index = index; round = 1; result = first } ∷ [] → twice ≡ once ++ record { index = index; round = 2; result = second } ∷ [] →
    (tail : List Row) → IsRowsFrom i facts (index + 1) (map meaning new) tail → IsRowsFrom i facts 1 (map meaning all) (twice ++ tail)
bench_step meaning i facts index all now new x rows once twice first second taken rounds goes_on e f tail rest =
    subst (IsRowsFrom i facts 1 (map meaning all)) (sym (rows_pushed rows once twice tail _ _ e f))
    (goes_on (record { index = index; round = 1; result = first } ∷ record { index = index; round = 2; result = second } ∷ tail)
    (subst (λ xs. IsRowsFrom i facts index (map meaning xs)
    (record { index = index; round = 1; result = first } ∷ record { index = index; round = 2; result = second } ∷ tail)) (sym taken) (first, second, tail, rounds, refl, rest)))

pub bench_done : {X : Type 0} (meaning : X → Meaning) (i : Instance) (facts : FactsTold) (index : ℕ) (all now : List X) (rows : List Row) → now ≡ [] →
    ((tail : List Row) → IsRowsFrom i facts index (map meaning now) tail → IsRowsFrom i facts 1 (map meaning all) (rows ++ tail)) →
    IsRowsFrom i facts 1 (map meaning all) rows
bench_done meaning i facts index all now rows none goes_on =
    subst (IsRowsFrom i facts 1 (map meaning all)) (append-nil rows) (goes_on [] (subst (λ xs. IsRowsFrom i facts index (map meaning xs) []) (sym none) refl))

-- A bench, and the rows of the rankers that were taken off it.
use Rattle.std.proofs.Common.{◌≡◌, ℕ, ◌+◌, ◌<◌, List, [], ◌∷◌, ◌++◌, Contains, append_assoc, append-nil, refl, sym, ap, subst, ◌∙◌, arith, drop, get_or, length}
use Rattle.std.specs.Prelude.{map}
use Rattle.std.proofs.lemmas.List.{get_or-drop, get_or-map, length-drop, length-map}
use Rattle.rankers.specs.Meaning.{Meaning}
use Rattle.replays.specs.declared.rows.Replayed.{Replayed}
use Rattle.replays.specs.declared.rows.ReplayRow.{ReplayRow}
use Rattle.replays.specs.Moments.{Input}
use Rattle.replays.specs.Replayed.{AreRowsFrom, IsReplayed}

row_pushed : (rows more tail : List ReplayRow) (r : ReplayRow) → more ≡ rows ++ r ∷ [] → more ++ tail ≡ rows ++ (r ∷ tail)
row_pushed rows more tail r e = ap (λ xs. xs ++ tail) e ∙ append_assoc rows (r ∷ []) tail

pub bench_step : {X : Type 0} (meaning : X → Meaning) (x : Input) (index : ℕ) (all now new : List X) (b : X) (rows more : List ReplayRow) (name : List ℕ) (result : Replayed) →
    now ≡ b ∷ new → IsReplayed x (meaning b) result →
    ((tail : List ReplayRow) → AreRowsFrom x index (map meaning now) tail → AreRowsFrom x 1 (map meaning all) (rows ++ tail)) →
    more ≡ rows ++ record { index = index; name = name; result = result } ∷ [] → name ≡ (meaning b).name →
    (tail : List ReplayRow) → AreRowsFrom x (index + 1) (map meaning new) tail → AreRowsFrom x 1 (map meaning all) (more ++ tail)
bench_step meaning x index all now new b rows more name result taken replayed goes_on e named tail rest =
    let row : ReplayRow = record { index = index; name = name; result = result } in
    let same = ap (λ (n : List ℕ). record { index = index; name = n; result = result } ∷ tail) named in
    subst (AreRowsFrom x 1 (map meaning all)) (sym (row_pushed rows more tail row e))
    (goes_on (row ∷ tail) (subst (λ xs. AreRowsFrom x index (map meaning xs) (row ∷ tail)) (sym taken) (result, tail, replayed, same, rest)))

pub bench_done : {X : Type 0} (meaning : X → Meaning) (x : Input) (index : ℕ) (all now : List X) (rows : List ReplayRow) → now ≡ [] →
    ((tail : List ReplayRow) → AreRowsFrom x index (map meaning now) tail → AreRowsFrom x 1 (map meaning all) (rows ++ tail)) → AreRowsFrom x 1 (map meaning all) rows
bench_done meaning x index all now rows none goes_on =
    subst (AreRowsFrom x 1 (map meaning all)) (append-nil rows) (goes_on [] (subst (λ xs. AreRowsFrom x index (map meaning xs) []) (sym none) refl))

-- the ranker that was reached last is of the bench
pub reached_on_bench : {X : Type 0} (meaning : X → Meaning) (all now new : List X) (index : ℕ) (b : X) → now ≡ drop index all → now ≡ b ∷ new →
    Contains (map meaning all) (meaning b)
reached_on_bench meaning all now new index b left taken =
    let is : drop index all ≡ b ∷ new = sym left ∙ taken in
    let lt : index < length all = omega (arith, ap (λ xs. length xs) is, length-drop index all) in
    let e : index ≡ index + 0 = omega arith in
    let at : get_or all index b ≡ b = ap (λ k. get_or all k b) e ∙ sym (get_or-drop index all 0 b) ∙ ap (λ xs. get_or xs 0 b) is in
    (index, omega (arith, lt, length-map all meaning), get_or-map meaning all index b (meaning b) lt ∙ ap meaning at)

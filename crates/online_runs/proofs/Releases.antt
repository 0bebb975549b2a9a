-- The lines of a released certificate.
use Rattle.std.proofs.Common.{◌≡◌, ℕ, ◌-◌, ◌<◌, List, get_or, length, map, reverse, sym, ap, subst, ◌∙◌, arith}
use Rattle.std.specs.Prelude.{All}
use Rattle.std.proofs.lemmas.List.{get_or-reverse, length-reverse, reverse-reverse}
use Rattle.flow_table.specs.Table.{instance_of, TableFacts}
use Rattle.release_bound.specs.declared.place.ReleasePlace.{ReleasePlace}
use Rattle.release_bound.specs.Release.{IsReleasedCertificate}
use Rattle.online_runs.specs.Value.{release_line}
use Rattle.online_runs.proofs.Right.{places_within}

all_back : {X : Type 0} (P : X → Type 0) (xs : List X) → All P (reverse xs) → All P xs
all_back P xs all k d lt =
    let n = length xs - 1 - k in
    let inside : n < length (reverse xs) = omega (arith, lt, length-reverse xs) in
    let at : get_or (reverse xs) n d ≡ get_or xs k d = get_or-reverse xs n d (omega (arith, lt)) ∙ ap (λ m. get_or xs m d) (back (length xs) k lt) in
    subst P at (all n d inside)
  where
    back : (n k : ℕ) → k < n → n - 1 - (n - 1 - k) ≡ k
    back n k lt = omega (arith, lt)

pub all_within : (t : TableFacts) (weights : List ℕ) (places : List ReleasePlace) → IsReleasedCertificate (instance_of t weights) (reverse places) →
    All (λ (r : ReleasePlace). r.coflow < length t.ids) places
all_within t weights places certificate = all_back (λ (r : ReleasePlace). r.coflow < length t.ids) places (places_within t weights (reverse places) certificate)

pub lines_turned : (t : TableFacts) (places : List ReleasePlace) → map (release_line t.ids) places ≡ map (release_line t.ids) (reverse (reverse places))
lines_turned t places = ap (map (release_line t.ids)) (sym (reverse-reverse places))

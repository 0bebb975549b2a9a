-- Marks that are all set.
use Rattle.std.proofs.Common.{◌≡◌, ℕ, Bool, true, List, [], ◌∷◌, length, replicate, refl, ap, ◌∙◌, arith, suc}
use Rattle.std.specs.Prelude.{All, count_by, if◌then◌else◌}
use Rattle.std.proofs.lemmas.List.Folds.{sum_by-replicate}

pub all_marked : (marks : List Bool) → All (λ mark. mark ≡ true) marks → marks ≡ replicate (length marks) true
all_marked [] all = refl
all_marked (m ∷ ms) all =
    let first : m ≡ true = all 0 true (omega arith) in
    let rest = all_marked ms (λ k d lt. all (suc k) d (omega (arith, lt))) in
    ap (λ b. b ∷ ms) first ∙ ap (λ (l : List Bool). true ∷ l) rest

pub count_marked : (marks : List Bool) → All (λ mark. mark ≡ true) marks → count_by (λ here. here) marks ≡ length marks
count_marked marks all =
    let n = length marks in
    let one : count_by (λ here. here) (replicate n true) ≡ n = omega (arith, sum_by-replicate (λ (here : Bool). if here then 1 else 0) n true) in
    ap (count_by (λ here. here)) (all_marked marks all) ∙ one

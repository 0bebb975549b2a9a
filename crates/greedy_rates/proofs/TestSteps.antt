-- What tests of orders tell, in the crates above.
use Rattle.std.proofs.Common.{◌≢◌, ℕ, ◌+◌, ◌<◌, List, length, get_or, take, Contains, sym, subst}
use Rattle.std.proofs.lemmas.List.{take_more}
use Rattle.std.proofs.lemmas.List.Elements.{Contains-get_or}
use Rattle.std.proofs.lemmas.List.Quantifiers.{all_pairs_push}
use Rattle.coflow_units.specs.Flows.{IsDistinct}

pub distinct_more : (xs : List ℕ) (k : ℕ) → k < length xs → IsDistinct (take k xs) → (Contains (take k xs) (get_or xs k 0) → ⊥) → IsDistinct (take (k + 1) xs)
distinct_more xs k lt so_far new =
    subst (λ (ys : List ℕ). IsDistinct ys) (sym (take_more xs k 0 lt)) (all_pairs_push (λ (x : ℕ) (y : ℕ). x ≢ y) (take k xs) (get_or xs k 0) so_far (λ i d less same.
    new (subst (λ (n : ℕ). Contains (take k xs) n) same (Contains-get_or (take k xs) i d less))))

-- Lists in which each element comes before those after it.
use Rattle.std.proofs.Common.{◌≡◌, ℕ, inl, inr, Bool, true, false, List, [], ◌∷◌, ◌++◌, get_or, Contains, refl, subst, arith, zero, suc}
use Rattle.std.specs.Prelude.{AllPairs}
use Rattle.std.specs.List.{filter}
use Rattle.std.proofs.lemmas.List.{get_or_default}
use Rattle.std.proofs.lemmas.List.Elements.{Contains-append_cases}
use Rattle.coflow_units.proofs.Lists.{filter_in}
use Rattle.coflow_units.proofs.Sums.{in_first, in_tail}

pub pairs_cons : (R : ℕ → ℕ → Type 0) (x : ℕ) (xs : List ℕ) → ((c : ℕ) → Contains xs c → R x c) → AllPairs R xs → AllPairs R (x ∷ xs)
pairs_cons R x xs first rest i zero d lt in' = absurd (omega arith)
pairs_cons R x xs first rest zero (suc j) d lt in' = first (get_or xs j d) (j, omega arith, get_or_default xs j (get_or xs j d) d (omega arith))
pairs_cons R x xs first rest (suc i) (suc j) d lt in' = rest i j d (omega arith) (omega arith)

pairs_first : (R : ℕ → ℕ → Type 0) (x c : ℕ) (xs : List ℕ) → AllPairs R (x ∷ xs) → Contains xs c → R x c
pairs_first R x c xs pairs (k, lt, at) = subst (R x) at (pairs 0 (suc k) c (omega arith) (omega arith))

pairs_rest : (R : ℕ → ℕ → Type 0) (x : ℕ) (xs : List ℕ) → AllPairs R (x ∷ xs) → AllPairs R xs
pairs_rest R x xs pairs = λ i j d lt in'. pairs (suc i) (suc j) d (omega arith) (omega arith)

pub pairs_append : (R : ℕ → ℕ → Type 0) (xs ys : List ℕ) → AllPairs R xs → AllPairs R ys → ((x y : ℕ) → Contains xs x → Contains ys y → R x y) → AllPairs R (xs ++ ys)
pairs_append R [] ys px py across = py
pairs_append R (x ∷ xs) ys px py across =
    pairs_cons R x (xs ++ ys)
    (λ c has. elim (Contains-append_cases xs ys c has) [
      | inl left ↦ pairs_first R x c xs px left
      | inr right ↦ across x c (in_first x xs) right
    ])
    (pairs_append R xs ys (pairs_rest R x xs px) py (λ y z hy hz. across y z (in_tail x xs y hy) hz))

-- a relation that holds of the members holds of the same list
pub pairs_weaker : (R S : ℕ → ℕ → Type 0) (xs : List ℕ) → ((x y : ℕ) → Contains xs x → Contains xs y → R x y → S x y) → AllPairs R xs → AllPairs S xs
pairs_weaker R S [] to pairs = λ i j d lt in'. absurd (omega arith)
pairs_weaker R S (x ∷ xs) to pairs =
    pairs_cons S x xs (λ c has. to x c (in_first x xs) (in_tail x xs c has) (pairs_first R x c xs pairs has))
    (pairs_weaker R S xs (λ y z hy hz. to y z (in_tail x xs y hy) (in_tail x xs z hz)) (pairs_rest R x xs pairs))

-- what passes a test keeps its order
filter_pairs_step : (R : ℕ → ℕ → Type 0) (p : ℕ → Bool) (x : ℕ) (xs : List ℕ) → ((c : ℕ) → Contains xs c → R x c) → AllPairs R (filter p xs) → (b : Bool) → p x ≡ b →
    AllPairs R (filter p (x ∷ xs))
filter_pairs_step R p x xs first rest true e = rw e (pairs_cons R x (filter p xs) (λ c has. first c (filter_in p xs c has).0) rest)
filter_pairs_step R p x xs first rest false e = rw e rest

pub filter_pairs : (R : ℕ → ℕ → Type 0) (p : ℕ → Bool) (xs : List ℕ) → AllPairs R xs → AllPairs R (filter p xs)
filter_pairs R p [] pairs = pairs
filter_pairs R p (x ∷ xs) pairs =
    filter_pairs_step R p x xs (λ c has. pairs_first R x c xs pairs has) (filter_pairs R p xs (pairs_rest R x xs pairs)) (p x) refl

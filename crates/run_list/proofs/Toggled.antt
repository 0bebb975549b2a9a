-- The numbers that stand in just one of two ascending lists.
use Rattle.std.proofs.Common.{◌≡◌, ℕ, ◌+◌, ◌≤◌, ◌<◌, ◌⊎◌, inl, inr, List, [], ◌∷◌, length, get_or, zero, suc, refl, sym, ap, subst, ◌∙◌, arith}
use Rattle.std.specs.List.Sorted.{IsStrictlyIncreasing}
use Rattle.std.proofs.lemmas.Bool.{cases_lt}
use Rattle.std.proofs.lemmas.Bool.Decides.{nat_tests}
use Rattle.coflow_units.proofs.Numbers.{compare}
use Rattle.run_list.specs.Kept.{toggled_from, toggled}

-- the numbers ascend strictly, and none is below the bound
abbrev pub Rises : ℕ → List ℕ → Type 0
Rises low [] = Unit {0}
Rises low (x ∷ xs) = (low ≤ x) × Rises (x + 1) xs

pub Rises-lower : (low high : ℕ) (xs : List ℕ) → low ≤ high → Rises high xs → Rises low xs
Rises-lower low high [] le up = tt
Rises-lower low high (x ∷ xs) le up = (omega arith, up.1)

from_below : (x y : ℕ) (rest : List ℕ → List ℕ) (ys : List ℕ) → x < y → toggled_from x rest (y ∷ ys) ≡ x ∷ rest (y ∷ ys)
from_below x y rest ys lt = grind (arith, nat_tests)

from_above : (x y : ℕ) (rest : List ℕ → List ℕ) (ys : List ℕ) → y < x → toggled_from x rest (y ∷ ys) ≡ y ∷ toggled_from x rest ys
from_above x y rest ys lt = grind (arith, nat_tests)

from_same : (x y : ℕ) (rest : List ℕ → List ℕ) (ys : List ℕ) → x ≡ y → toggled_from x rest (y ∷ ys) ≡ rest ys
from_same x y rest ys e = grind (arith, nat_tests)

from_past : (x : ℕ) (rest : List ℕ → List ℕ) (ys : List ℕ) → Rises (x + 1) ys → toggled_from x rest ys ≡ x ∷ rest ys
from_past x rest [] up = refl
from_past x rest (y ∷ ys) up = from_below x y rest ys (omega arith)

from_rises : (x : ℕ) (rest : List ℕ → List ℕ) → ((ys : List ℕ) → Rises (x + 1) ys → Rises (x + 1) (rest ys)) →
    (low : ℕ) (ys : List ℕ) → low ≤ x → Rises low ys → Rises low (toggled_from x rest ys)
from_rises x rest on low [] le up = (le, on [] tt)
from_rises x rest on low (y ∷ ys) le up = elim (compare x y) [
  | inl lt ↦ subst (Rises low) (sym (from_below x y rest ys lt)) (le, on (y ∷ ys) (omega arith, up.1))
  | inr (inl e) ↦
      let more : Rises (x + 1) ys = subst (λ (n : ℕ). Rises (n + 1) ys) (sym e) up.1 in
      subst (Rises low) (sym (from_same x y rest ys e)) (Rises-lower low (x + 1) (rest ys) (omega arith) (on ys more))
  | inr (inr lt) ↦
      subst (Rises low) (sym (from_above x y rest ys lt)) (up.0, from_rises x rest on (y + 1) ys (omega arith) up.1)
]

pub toggled_rises : (low : ℕ) (xs ys : List ℕ) → Rises low xs → Rises low ys → Rises low (toggled xs ys)
toggled_rises low [] ys up also = also
toggled_rises low (x ∷ xs) ys up also = from_rises x (toggled xs) (λ zs more. toggled_rises (x + 1) xs zs up.1 more) low ys up.0 also

from_twice : (x : ℕ) (rest : List ℕ → List ℕ) → ((ys : List ℕ) → Rises (x + 1) ys → Rises (x + 1) (rest ys)) →
    ((ys : List ℕ) → Rises (x + 1) ys → rest (rest ys) ≡ ys) →
    (low : ℕ) (ys : List ℕ) → low ≤ x → Rises low ys → toggled_from x rest (toggled_from x rest ys) ≡ ys
from_twice x rest on back low [] le up = from_same x x rest (rest []) refl ∙ back [] tt
from_twice x rest on back low (y ∷ ys) le up = elim (compare x y) [
  | inl lt ↦ ap (toggled_from x rest) (from_below x y rest ys lt) ∙ from_same x x rest (rest (y ∷ ys)) refl ∙ back (y ∷ ys) (omega arith, up.1)
  | inr (inl e) ↦
      let more : Rises (x + 1) ys = subst (λ (n : ℕ). Rises (n + 1) ys) (sym e) up.1 in
      ap (toggled_from x rest) (from_same x y rest ys e) ∙ from_past x rest (rest ys) (on ys more) ∙ ap (λ (zs : List ℕ). x ∷ zs) (back ys more) ∙ ap (λ (n : ℕ). n ∷ ys) e
  | inr (inr lt) ↦
      ap (toggled_from x rest) (from_above x y rest ys lt) ∙ from_above x y rest (toggled_from x rest ys) lt
      ∙ ap (λ (zs : List ℕ). y ∷ zs) (from_twice x rest on back (y + 1) ys (omega arith) up.1)
]

twice : (low : ℕ) (xs ys : List ℕ) → Rises low xs → Rises low ys → toggled xs (toggled xs ys) ≡ ys
twice low [] ys up also = refl
twice low (x ∷ xs) ys up also =
    from_twice x (toggled xs) (λ zs more. toggled_rises (x + 1) xs zs up.1 more) (λ zs more. twice (x + 1) xs zs up.1 more) low ys up.0 also

pub rises : (low : ℕ) (xs : List ℕ) → (0 < length xs → low ≤ get_or xs 0 0) → IsStrictlyIncreasing xs → Rises low xs
rises low [] above up = tt
rises low (x ∷ xs) above up = (
  above (omega arith),
  rises (x + 1) xs (λ some. omega (arith, up 0 (omega arith))) (λ k lt.
      let e : suc k + 1 ≡ suc (k + 1) = omega arith in
      subst (λ n. get_or xs k 0 < get_or (x ∷ xs) n 0) e (up (suc k) (omega arith))),
)

-- what tells one ascending list beside another tells it back
pub toggled_twice : (xs ys : List ℕ) → IsStrictlyIncreasing xs → IsStrictlyIncreasing ys → toggled xs (toggled xs ys) ≡ ys
toggled_twice xs ys up also = twice 0 xs ys (rises 0 xs (λ some. omega arith) up) (rises 0 ys (λ some. omega arith) also)

-- numbers that rise are ascending
pub ascending : (low : ℕ) (xs : List ℕ) → Rises low xs → IsStrictlyIncreasing xs
ascending low [] up i lt = absurd (omega arith)
ascending low (x ∷ []) up i lt = absurd (omega arith)
ascending low (x ∷ (y ∷ ys)) up zero lt = omega (arith, up.1.0)
ascending low (x ∷ (y ∷ ys)) up (suc i) lt =
    let e : suc i + 1 ≡ suc (i + 1) = omega arith in
    subst (λ n. get_or (y ∷ ys) i 0 < get_or (x ∷ (y ∷ ys)) n 0) (sym e) (ascending (x + 1) (y ∷ ys) up.1 i (omega arith))

pub toggled_ascends : (xs ys : List ℕ) → IsStrictlyIncreasing xs → IsStrictlyIncreasing ys → IsStrictlyIncreasing (toggled xs ys)
toggled_ascends xs ys up also = ascending 0 (toggled xs ys) (toggled_rises 0 xs ys (rises 0 xs (λ some. omega arith) up) (rises 0 ys (λ some. omega arith) also))

pub toggled_below : (x y : ℕ) (xs ys : List ℕ) → x < y → toggled (x ∷ xs) (y ∷ ys) ≡ x ∷ toggled xs (y ∷ ys)
toggled_below x y xs ys lt = from_below x y (toggled xs) ys lt

pub toggled_above : (x y : ℕ) (xs ys : List ℕ) → y < x → toggled (x ∷ xs) (y ∷ ys) ≡ y ∷ toggled (x ∷ xs) ys
toggled_above x y xs ys lt = from_above x y (toggled xs) ys lt

pub toggled_same : (x y : ℕ) (xs ys : List ℕ) → x ≡ y → toggled (x ∷ xs) (y ∷ ys) ≡ toggled xs ys
toggled_same x y xs ys e = from_same x y (toggled xs) ys e

pub toggled-nil : (xs : List ℕ) → toggled xs [] ≡ xs
toggled-nil [] = refl
toggled-nil (x ∷ xs) = ap (λ (zs : List ℕ). x ∷ zs) (toggled-nil xs)

-- Where lists part.
use Rattle.std.proofs.Common.{◌≡◌, ◌≢◌, ℕ, ◌+◌, ◌<◌, zero, suc, List, [], ◌∷◌, ◌++◌, length, replicate, refl, sym, ap, subst, arith}
use Rattle.std.specs.Prelude.{None, Option, Some, is_some, slice_get, unwrap_or}
use Rattle.std.proofs.lemmas.Bool.{false≢true}
use Rattle.journal_audit.specs.Parted.{IsPartedAt}

pub none_is_not_some : {X : Type 0} (x : X) → ◌≡◌ {A = Option X} None (Some x) → ⊥
none_is_not_some {X} x e = false≢true (ap (λ (o : Option X). is_some o) e)

pub same_some : {X : Type 0} (x y : X) → ◌≡◌ {A = Option X} (Some x) (Some y) → x ≡ y
same_some {X} x y e = ap (λ (o : Option X). unwrap_or o x) e

-- equal lists part nowhere
pub no_parting : {X : Type 0} (a b : List X) (n : ℕ) → a ≡ b → IsPartedAt a b n → ⊥
no_parting a b n e p = p.parted (ap (λ l. slice_get l n) e)

pub parted_back : {X : Type 0} (a b : List X) (n : ℕ) → IsPartedAt a b n → IsPartedAt b a n
parted_back a b n p = record { before = λ k lt. sym (p.before k lt); parted = λ e. p.parted (sym e) }

-- ---- behind a common front

parted_one : {X : Type 0} (x : X) (xs ys : List X) (n : ℕ) → IsPartedAt xs ys n → IsPartedAt (x ∷ xs) (x ∷ ys) (suc n)
parted_one {X} x xs ys n p = record { before = before; parted = p.parted }
  where
    before : (k : ℕ) → k < suc n → slice_get (x ∷ xs) k ≡ slice_get (x ∷ ys) k
    before zero lt = refl
    before (suc k) lt = p.before k (omega arith)

pub parted_behind : {X : Type 0} (a xs ys : List X) (n : ℕ) → IsPartedAt xs ys n → IsPartedAt (a ++ xs) (a ++ ys) (length a + n)
parted_behind {X} [] xs ys n p = let e : n ≡ 0 + n = omega arith in subst (λ (m : ℕ). IsPartedAt xs ys m) e p
parted_behind {X} (x ∷ a) xs ys n p =
    let e : suc (length a + n) ≡ length (x ∷ a) + n = omega arith in
    subst (λ (m : ℕ). IsPartedAt (x ∷ (a ++ xs)) (x ∷ (a ++ ys)) m) e (parted_one x (a ++ xs) (a ++ ys) (length a + n) (parted_behind a xs ys n p))

-- ---- at their heads

pub heads_part : {X : Type 0} (x y : X) (xs ys : List X) → x ≢ y → IsPartedAt (x ∷ xs) (y ∷ ys) 0
heads_part x y xs ys differ = record { before = λ k lt. absurd (omega arith); parted = λ e. differ (same_some x y e) }

pub end_parts : {X : Type 0} (y : X) (ys : List X) → IsPartedAt [] (y ∷ ys) 0
end_parts y ys = record { before = λ k lt. absurd (omega arith); parted = λ e. none_is_not_some y e }

-- equal elements, fewer on the one side, which then goes on otherwise or ends
pub fewer_part : {X : Type 0} (n m : ℕ) (x : X) (xs ys : List X) → n < m → slice_get xs 0 ≢ Some x → IsPartedAt (replicate n x ++ xs) (replicate m x ++ ys) n
fewer_part n zero x xs ys lt other = absurd (omega arith)
fewer_part zero (suc m) x xs ys lt other = record { before = λ k less. absurd (omega arith); parted = other }
fewer_part (suc n) (suc m) x xs ys lt other = parted_one x (replicate n x ++ xs) (replicate m x ++ ys) n (fewer_part n m x xs ys (omega arith) other)

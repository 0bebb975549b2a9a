-- Lists over ranges of numbers.
use Rattle.std.proofs.Common.{◌≡◌, ℕ, ◌+◌, ◌≤◌, ◌<◌, ◌∷◌, map, replicate, refl, ap, ◌∙◌, arith, zero, suc}
use Rattle.std.specs.List.{range_with_len}

pub range_same : {X : Type 0} (f g : ℕ → X) (a n : ℕ) → ((t : ℕ) → a ≤ t → t < a + n → f t ≡ g t) → map f (range_with_len a n) ≡ map g (range_with_len a n)
range_same f g a zero same = refl
range_same f g a (suc n) same = ap (λ x. x ∷ map f (range_with_len (a + 1) n)) (same a (omega arith) (omega arith)) ∙
    ap (λ l. g a ∷ l) (range_same f g (a + 1) n (λ t low high. same t (omega arith) (omega arith)))

pub range_shift : {X : Type 0} (f : ℕ → X) (a b n : ℕ) → map f (range_with_len (a + b) n) ≡ map (λ i. f (a + i)) (range_with_len b n)
range_shift f a b zero = refl
range_shift f a b (suc n) =
    let e : a + b + 1 ≡ a + (b + 1) = omega arith in
    ap (λ c. f (a + b) ∷ map f (range_with_len c n)) e ∙ ap (λ l. f (a + b) ∷ l) (range_shift f a (b + 1) n)

pub range_none : {X : Type 0} (x : X) (a n : ℕ) → map (λ (t : ℕ). x) (range_with_len a n) ≡ replicate n x
range_none x a zero = refl
range_none x a (suc n) = ap (λ l. x ∷ l) (range_none x (a + 1) n)

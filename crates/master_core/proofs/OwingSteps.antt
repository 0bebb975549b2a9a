-- The first flow that owes.
use Rattle.std.proofs.Common.{◌≡◌, ℕ, ◌+◌, ◌<◌, ◌≤◌, inl, inr, Bool, true, false, List, [], ◌∷◌, refl, ap, ◌∙◌, arith, zero, suc}
use Rattle.std.specs.Prelude.{if◌then◌else◌}
use Rattle.std.specs.List.{filter, range_with_len}
use Rattle.std.proofs.lemmas.Bool.{cases_lt}

pub none_more : (p : ℕ → Bool) (n : ℕ) → ((f : ℕ) → f < n → p f ≡ false) → p n ≡ false → (f : ℕ) → f < n + 1 → p f ≡ false
none_more p n none here f lt = elim (cases_lt f n) [
  | inl before ↦ none f before
  | inr upto ↦ let e : f ≡ n = omega (arith, lt, upto) in ap p e ∙ here
]

none_from : (p : ℕ → Bool) (a n : ℕ) → ((f : ℕ) → a ≤ f → f < a + n → p f ≡ false) → filter p (range_with_len a n) ≡ []
none_from p a zero none = refl
none_from p a (suc n) none = rw (none a (omega arith) (omega arith)) (none_from p (a + 1) n (λ f le lt. none f (omega arith) (omega arith)))

first_from : (p : ℕ → Bool) (a n f : ℕ) → a ≤ f → f < a + n → p f ≡ true → ((g : ℕ) → a ≤ g → g < f → p g ≡ false) → (rest : List ℕ) × (filter p (range_with_len a n) ≡ f ∷ rest)
first_from p a zero f le lt here none = absurd (omega arith)
first_from p a (suc n) f le lt here none = elim (cases_lt a f) [
  | inl before ↦ rw (none a (omega arith) before) (first_from p (a + 1) n f (omega arith) (omega arith) here (λ g le' lt'. none g (omega arith) lt'))
  | inr upto ↦
      let e : a ≡ f = omega (arith, le, upto) in (
        filter p (range_with_len (a + 1) n),
        ap (λ b. if b then a ∷ filter p (range_with_len (a + 1) n) else filter p (range_with_len (a + 1) n)) (ap p e ∙ here) ∙
            ap (λ x. x ∷ filter p (range_with_len (a + 1) n)) e,
      )
]

pub filter_none : (p : ℕ → Bool) (n : ℕ) → ((f : ℕ) → f < n → p f ≡ false) → filter p (range_with_len 0 n) ≡ []
filter_none p n none = none_from p 0 n (λ f le lt. none f (omega arith))

pub filter_first : (p : ℕ → Bool) (n f : ℕ) → f < n → p f ≡ true → ((g : ℕ) → g < f → p g ≡ false) → (rest : List ℕ) × (filter p (range_with_len 0 n) ≡ f ∷ rest)
filter_first p n f lt here none = first_from p 0 n f (omega arith) (omega arith) here (λ g le lt'. none g lt')

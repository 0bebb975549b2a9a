-- The first of the numbers below a bound that pass a test, and the one with the least key.
use Rattle.std.proofs.Common.{◌≡◌, ℕ, ◌<◌, ◌≤◌, ◌⊎◌, inl, inr, Bool, true, false, true≢false, subst, sym, ◌∙◌, arith, suc, zero}
use Rattle.std.proofs.lemmas.Bool.{cases_Bool, cases_lt}

-- the number is below the bound and passes the test, and none before it does
pub record IsFirstTrue (p : ℕ → Bool) (n m : ℕ) : Type 0 where
  pub below : m < n
  pub passes : p m ≡ true
  pub first : (k : ℕ) → k < m → p k ≡ false

pub first_true : (p : ℕ → Bool) (n : ℕ) → ((m : ℕ) × IsFirstTrue p n m) ⊎ ((k : ℕ) → k < n → p k ≡ false)
first_true p zero = inr (λ k lt. absurd (omega (arith, lt)))
first_true p (suc n) = elim (first_true p n) [
  | inl (m, h) ↦ inl (m, record { below = omega (arith, h.below); passes = h.passes; first = h.first })
  | inr none ↦
      elim (cases_Bool (p n)) [
        | inl is ↦ inl (n, record { below = omega arith; passes = is; first = none })
        | inr not' ↦
            inr (λ k lt.
            elim (cases_lt k n) [
              | inl low ↦ none k low
              | inr past ↦ let e : n ≡ k = omega (arith, lt, past) in subst (λ i. p i ≡ false) e not'
            ]
            )
      ]
]

-- the number comes no later than the other: by key, and then by number
abbrev pub NoLater : (ℕ → ℕ) → ℕ → ℕ → Type 0
NoLater key m k = (key m < key k) ⊎ ((key m ≡ key k) × (m ≤ k))

-- the number is below the bound and passes the test, and comes no later than any other that does
pub record IsLeastTrue (p : ℕ → Bool) (key : ℕ → ℕ) (n m : ℕ) : Type 0 where
  pub below : m < n
  pub passes : p m ≡ true
  pub least : (k : ℕ) → k < n → p k ≡ true → NoLater key m k

stays_least : (p : ℕ → Bool) (key : ℕ → ℕ) (n m : ℕ) → IsLeastTrue p key n m → (p n ≡ true → NoLater key m n) → IsLeastTrue p key (suc n) m
stays_least p key n m h last = record {
  below = omega (arith, h.below);
  passes = h.passes;
  least = λ k lt is.
      elim (cases_lt k n) [
        | inl low ↦ h.least k low is
        | inr past ↦ let e : n ≡ k = omega (arith, lt, past) in subst (NoLater key m) e (last (subst (λ i. p i ≡ true) (sym e) is))
      ];
}

comes_before : (key : ℕ → ℕ) (n m k : ℕ) → key n < key m → NoLater key m k → NoLater key n k
comes_before key n m k lt (inl low) = inl (omega (arith, lt, low))
comes_before key n m k lt (inr (e, le)) = inl (omega (arith, lt, e))

is_new_least : (p : ℕ → Bool) (key : ℕ → ℕ) (n m : ℕ) → IsLeastTrue p key n m → p n ≡ true → key n < key m → IsLeastTrue p key (suc n) n
is_new_least p key n m h is lt = record {
  below = omega arith;
  passes = is;
  least = λ k low there.
      elim (cases_lt k n) [
        | inl before ↦ comes_before key n m k lt (h.least k before there)
        | inr past ↦ let e : n ≡ k = omega (arith, low, past) in subst (NoLater key n) e (inr (omega arith, omega arith))
      ];
}

pub least_true : (p : ℕ → Bool) (key : ℕ → ℕ) (n : ℕ) → ((m : ℕ) × IsLeastTrue p key n m) ⊎ ((k : ℕ) → k < n → p k ≡ false)
least_true p key zero = inr (λ k lt. absurd (omega (arith, lt)))
least_true p key (suc n) = elim (least_true p key n) [
  | inl (m, h) ↦
      elim (cases_lt (key n) (key m)) [
        | inl lt ↦
            elim (cases_Bool (p n)) [
              | inl is ↦ inl (n, is_new_least p key n m h is lt)
              | inr not' ↦ inl (m, stays_least p key n m h (λ is. absurd (true≢false (sym is ∙ not'))))
            ]
        | inr ge ↦
            inl (
              m,
              stays_least p key n m h
                  (λ is.
                  elim (cases_lt (key m) (key n)) [
                    | inl low ↦ inl low
                    | inr le ↦ inr (omega (arith, ge, le), omega (arith, h.below))
                  ]
                  ),
            )
      ]
  | inr none ↦
      elim (cases_Bool (p n)) [
        | inl is ↦
            inl (
              n,
              record {
                below = omega arith;
                passes = is;
                least = λ k lt there.
                    elim (cases_lt k n) [
                      | inl low ↦ absurd (true≢false (sym there ∙ none k low))
                      | inr past ↦ let e : n ≡ k = omega (arith, lt, past) in subst (NoLater key n) e (inr (omega arith, omega arith))
                    ];
              },
            )
        | inr not' ↦
            inr (λ k lt.
            elim (cases_lt k n) [
              | inl low ↦ none k low
              | inr past ↦ let e : n ≡ k = omega (arith, lt, past) in subst (λ i. p i ≡ false) e not'
            ]
            )
      ]
]

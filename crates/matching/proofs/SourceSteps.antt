-- The ports at which flows begin, one after another.
use Rattle.std.proofs.Common.{◌≡◌, ℕ, ◌+◌, ◌≤◌, ◌<◌, ◌⊎◌, inl, inr, List, length, get_or, Contains, refl, sym, ap, ◌∙◌, arith}
use Rattle.std.proofs.lemmas.Bool.{cases_eq, cases_lt}
use Rattle.std.proofs.lemmas.List.{get_or_default}
use Rattle.coflow_units.specs.Flows.{IsDistinct}

-- one port more
pub record IsOneMore (done more : ℕ → Type 0) (n : ℕ) : Type 0 where
  pub has : more n
  pub fresh : done n → ⊥
  pub from : (p : ℕ) → more p → (p ≡ n) ⊎ done p
  pub keeps : (p : ℕ) → done p → more p

-- the port is in one of the first k places
abbrev pub IsAmongFirst : List ℕ → ℕ → ℕ → Type 0
IsAmongFirst ports k p = (j : ℕ) × (j < k) × (j < length ports) × (get_or ports j 0 ≡ p)

-- the port is in the k-th place, or in a later one
abbrev pub IsAmongLast : List ℕ → ℕ → ℕ → Type 0
IsAmongLast ports k p = (j : ℕ) × (k ≤ j) × (j < length ports) × (get_or ports j 0 ≡ p)

-- a port stands in one place
one_place : (ports : List ℕ) (i j : ℕ) → IsDistinct ports → i < length ports → j < length ports → get_or ports i 0 ≡ get_or ports j 0 → i ≡ j
one_place ports i j once li lj e = elim (cases_eq i j) [
  | inl same ↦ same
  | inr ne ↦ elim (cases_lt i j) [
    | inl low ↦ absurd (once i j 0 low lj e)
    | inr high ↦ absurd (once j i 0 (omega (arith, high, ne)) li (sym e))
  ]
]

pub none_first : (ports : List ℕ) (p : ℕ) → IsAmongFirst ports 0 p → ⊥
none_first ports p (j, lt, _, _) = omega (arith, lt)

pub none_last : (ports : List ℕ) (k p : ℕ) → length ports ≤ k → IsAmongLast ports k p → ⊥
none_last ports k p end (j, le, lt, _) = omega (arith, le, lt, end)

pub first_more : (ports : List ℕ) (k : ℕ) → IsDistinct ports → k < length ports → IsOneMore (IsAmongFirst ports k) (IsAmongFirst ports (k + 1)) (get_or ports k 0)
first_more ports k once lt = record {
  has = (k, omega arith, lt, refl);
  fresh = λ (j, low, lj, e). omega (arith, low, one_place ports j k once lj lt e);
  from = λ p (j, low, lj, e). elim (cases_eq j k) [
    | inl same ↦ inl (sym e ∙ ap (λ i. get_or ports i 0) same)
    | inr ne ↦ inr (j, omega (arith, low, ne), lj, e)
  ];
  keeps = λ p (j, low, lj, e). (j, omega (arith, low), lj, e);
}

pub last_more : (ports : List ℕ) (k : ℕ) → IsDistinct ports → k < length ports → IsOneMore (IsAmongLast ports (k + 1)) (IsAmongLast ports k) (get_or ports k 0)
last_more ports k once lt = record {
  has = (k, omega arith, lt, refl);
  fresh = λ (j, high, lj, e). omega (arith, high, one_place ports j k once lj lt e);
  from = λ p (j, high, lj, e). elim (cases_eq j k) [
    | inl same ↦ inl (sym e ∙ ap (λ i. get_or ports i 0) same)
    | inr ne ↦ inr (j, omega (arith, high, ne), lj, e)
  ];
  keeps = λ p (j, high, lj, e). (j, omega (arith, high), lj, e);
}

pub among_all : (ports : List ℕ) (k p : ℕ) → length ports ≤ k → Contains ports p → IsAmongFirst ports k p
among_all ports k p end (j, lt, at) = (j, omega (arith, lt, end), lt, sym (get_or_default ports j p 0 lt) ∙ at)

pub among_last : (ports : List ℕ) (p : ℕ) → Contains ports p → IsAmongLast ports 0 p
among_last ports p (j, lt, at) = (j, omega arith, lt, sym (get_or_default ports j p 0 lt) ∙ at)

-- Places of a table of rows, and sums over a range of numbers.
use Rattle.std.proofs.Common.{◌≡◌, ◌≢◌, ℕ, ◌+◌, ◌*◌, ◌/◌, ◌%◌, ◌<◌, inl, inr, cond, get_or, Contains, sym, ap, ◌∙◌, arith, zero-add}
use Rattle.std.specs.Prelude.{sum_by, ◌==◌}
use Rattle.std.specs.List.{range_with_len}
use Rattle.std.proofs.lemmas.Nat.{mul-add-lt, div-mul-add, mod-mul-add}
use Rattle.std.proofs.lemmas.Bool.{cases_Bool, eqb-true, eq-eqb, both_ways}
use Rattle.std.proofs.lemmas.List.FromFn.{length-range_with_len, get_or-range_with_len}
use Rattle.coflow_units.proofs.Sums.{Apart, apart_from_pairs, picked_one, sum_add, sum_same}
use Rattle.coflow_units.proofs.Ranges.{in_range}

-- two places of a table with n columns are one only where row and column are
pub other_place : (n r c r' c' : ℕ) → c < n → c' < n → (r ≡ r' → c ≡ c' → ⊥) → r * n + c ≢ r' * n + c'
other_place n r c r' c' lt lt' differ =
    λ e. differ (sym (div-mul-add r n c lt) ∙ ap (λ k. k / n) e ∙ div-mul-add r' n c' lt') (sym (mod-mul-add r n c lt) ∙ ap (λ k. k % n) e ∙ mod-mul-add r' n c' lt')

pub in_table : (n r c rows : ℕ) → r < rows → c < n → r * n + c < rows * n
in_table n r c rows lr lc = omega (arith, mul-add-lt r n c rows lr lc)

-- the numbers below n
pub below_in : (n a : ℕ) → a < n → Contains (range_with_len 0 n) a
below_in n a lt = (a, omega (arith, length-range_with_len 0 n), get_or-range_with_len 0 n a a lt ∙ zero-add a)

apart_at : (n i j d : ℕ) → i < j → j < n → get_or (range_with_len 0 n) i d ≢ get_or (range_with_len 0 n) j d
apart_at n i j d lt in' = λ e. omega (arith, e, get_or-range_with_len 0 n i d (omega arith), get_or-range_with_len 0 n j d in')

pub range_apart : (n : ℕ) → Apart (range_with_len 0 n)
range_apart n = apart_from_pairs (range_with_len 0 n) (λ i j d lt in'. apart_at n i j d (omega arith) (omega (arith, length-range_with_len 0 n)))

-- one term of a sum grows
grown_at : (f g : ℕ → ℕ) (n a u : ℕ) → g a ≡ f a + u → ((c : ℕ) → c < n → c ≢ a → g c ≡ f c) → (c : ℕ) → c < n → g c ≡ f c + cond (a == c) u 0
grown_at f g n a u here others c lt = elim (cases_Bool (a == c)) [
  | inl e ↦
      let same = eqb-true a c e in
      ap g (sym same) ∙ here ∙ ap (λ k. f k + u) same ∙ ap {B = ℕ} (λ b. f c + cond b u 0) (sym e)
  | inr e ↦ others c lt (λ same. both_ways (a == c) e (eq-eqb a c (sym same))) ∙ omega (arith, ap {B = ℕ} (λ b. cond b u 0) e)
]

pub sum_grows : (f g : ℕ → ℕ) (n a u : ℕ) → a < n → g a ≡ f a + u → ((c : ℕ) → c < n → c ≢ a → g c ≡ f c) → sum_by g (range_with_len 0 n) ≡ sum_by f (range_with_len 0 n) + u
sum_grows f g n a u lt here others =
    omega (
      arith,
      sum_same g (λ c. f c + cond (a == c) u 0) (range_with_len 0 n) (λ c has. grown_at f g n a u here others c (in_range n c has)),
      sum_add f (λ c. cond (a == c) u 0) (range_with_len 0 n),
      picked_one a (λ c. u) (range_with_len 0 n) (range_apart n) (below_in n a lt),
    )

-- Lists of the numbers from one on, and lists of noughts.
use Rattle.std.proofs.Common.{◌≡◌, ℕ, ◌+◌, ◌<◌, Bool, ◌∷◌, ◌++◌, get_or, replicate, Contains, refl, ap, ◌∙◌, arith, zero, suc}
use Rattle.std.specs.Prelude.{sum_by}
use Rattle.std.specs.List.{filter, range_with_len}
use Rattle.std.specs.List.Sorted.{IsStrictlyIncreasing}
use Rattle.std.proofs.lemmas.List.FromFn.{get_or-range_with_len, length-range_with_len}
use Rattle.std.proofs.lemmas.List.Kept.{AllPairs-filter}
use Rattle.coflow_units.proofs.Lists.{number_below, range_more}

pub in_range : (n k : ℕ) → Contains (range_with_len 0 n) k → k < n
in_range n k has = omega (arith, number_below 0 n k has)

pub range_pair : (n i j d : ℕ) → i < j → j < n → get_or (range_with_len 0 n) i d < get_or (range_with_len 0 n) j d
range_pair n i j d less lt = omega (arith, get_or-range_with_len 0 n i d (omega arith), get_or-range_with_len 0 n j d lt)

pub range_rises : (p : ℕ → Bool) (n : ℕ) → IsStrictlyIncreasing (filter p (range_with_len 0 n))
range_rises p n k lt =
    AllPairs-filter (λ (x : ℕ) (y : ℕ). x < y) p (range_with_len 0 n) (λ i j d less in'. range_pair n i j d less (omega (arith, in', length-range_with_len 0 n))) k (k + 1) 0
    (omega arith) lt

pub range_append : (a m n : ℕ) → range_with_len a (m + n) ≡ range_with_len a m ++ range_with_len (a + m) n
range_append a zero n =
    let e : a ≡ a + 0 = omega arith in
    let e2 : 0 + n ≡ n = omega arith in
    ap (range_with_len a) e2 ∙ ap (λ b. range_with_len b n) e
range_append a (suc m) n =
    let e : suc m + n ≡ suc (m + n) = omega arith in
    let e2 : a + 1 + m ≡ a + suc m = omega arith in
    ap (range_with_len a) e ∙ ap (λ l. a ∷ l) (range_append (a + 1) m n ∙ ap (λ b. range_with_len (a + 1) m ++ range_with_len b n) e2)

pub sum_next : (w : ℕ → ℕ) (n : ℕ) → sum_by w (range_with_len 0 (n + 1)) ≡ sum_by w (range_with_len 0 n) + w n
sum_next w n =
    let e : n + 1 ≡ suc n = omega arith in
    let z : 0 + n ≡ n = omega arith in
    ap (λ (k : ℕ). sum_by w (range_with_len 0 k)) e ∙ (range_more w 0 n ∙ ap (λ (k : ℕ). sum_by w (range_with_len 0 n) + w k) z)

pub zero_at : (n k : ℕ) → ◌≡◌ {A = ℕ} (get_or (replicate n 0) k 0) 0
zero_at zero k = refl
zero_at (suc n) zero = refl
zero_at (suc n) (suc k) = zero_at n k

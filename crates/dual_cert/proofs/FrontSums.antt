-- Sums over the coflows of a front, taken along all coflows by number.
use Rattle.std.proofs.Common.{◌≡◌, ℕ, ◌+◌, ◌-◌, ◌*◌, ◌<◌, ◌≤◌, Bool, true, false, cond, List, zero, suc, Contains, refl, ap, subst, ◌∙◌, arith}
use Rattle.std.specs.Prelude.{◌==◌, sum_by}
use Rattle.std.specs.List.{list_any, range_with_len}
use Rattle.coflow_units.proofs.Lists.{range_more}
use Rattle.coflow_units.proofs.Sums.{Apart, any_has, any_in, members_at_most, sum_same}
use Rattle.port_load.proofs.Grid.{below_in, range_apart}

abbrev pub sum_to : (ℕ → ℕ) → ℕ → ℕ
sum_to g n = sum_by g (range_with_len 0 n)

pub sum_next : (g : ℕ → ℕ) (n : ℕ) → sum_to g (n + 1) ≡ sum_to g n + g n
sum_next g n =
    let e : n + 1 ≡ suc n = omega arith in
    let f : 0 + n ≡ n = omega arith in
    ap (sum_to g) e ∙ range_more g 0 n ∙ ap (λ k. sum_to g n + g k) f

-- numbers without a term are passed by
sum_past_by : (g : ℕ → ℕ) (m d : ℕ) → ((c : ℕ) → m ≤ c → c < m + d → g c ≡ 0) → sum_to g (m + d) ≡ sum_to g m
sum_past_by g m zero none = let e : m + 0 ≡ m = omega arith in ap (sum_to g) e
sum_past_by g m (suc d) none =
    let e : m + suc d ≡ m + d + 1 = omega arith in
    let next = ap (sum_to g) e ∙ sum_next g (m + d) in
    omega (arith, next, none (m + d) (omega arith) (omega arith), sum_past_by g m d (λ c le lt. none c le (omega (arith, lt))))

pub sum_past : (g : ℕ → ℕ) (m n : ℕ) → m ≤ n → ((c : ℕ) → m ≤ c → c < n → g c ≡ 0) → sum_to g n ≡ sum_to g m
sum_past g m n le none =
    let e : n ≡ m + (n - m) = omega arith in
    ap (sum_to g) e ∙ sum_past_by g m (n - m) (λ c lc lt. none c lc (omega (arith, lt)))

sum_within_by : (g : ℕ → ℕ) (m d : ℕ) → sum_to g m ≤ sum_to g (m + d)
sum_within_by g m zero = let e : m + 0 ≡ m = omega arith in omega (arith, ap (sum_to g) e)
sum_within_by g m (suc d) =
    let e : m + suc d ≡ m + d + 1 = omega arith in
    omega (arith, ap (sum_to g) e ∙ sum_next g (m + d), sum_within_by g m d)

pub sum_within : (g : ℕ → ℕ) (m n : ℕ) → m ≤ n → sum_to g m ≤ sum_to g n
sum_within g m n le =
    let e : m + (n - m) ≡ n = omega arith in
    subst (λ k. sum_to g m ≤ sum_to g k) e (sum_within_by g m (n - m))

-- ---- the coflows of a list alone

some_is_true : (b : Bool) (n : ℕ) → 0 < cond b n 0 → b ≡ true
some_is_true true n lt = refl
some_is_true false n lt = absurd (omega (arith, lt))

abbrev pub picked : (ℕ → ℕ) → List ℕ → ℕ → ℕ
picked f xs c = cond (list_any (λ x. x == c) xs) (f c) 0

pub front_sum : (f : ℕ → ℕ) (xs : List ℕ) (n : ℕ) → Apart xs → ((c : ℕ) → Contains xs c → c < n) → sum_to (picked f xs) n ≡ sum_by f xs
front_sum f xs n apart small =
    let low = members_at_most (picked f xs) xs (range_with_len 0 n) apart (λ c has some. below_in n c (small c has)) in
    let high = members_at_most (picked f xs) (range_with_len 0 n) xs (range_apart n) (λ c has some. any_has xs c (some_is_true (list_any (λ x. x == c) xs) (f c) some)) in
    let own = sum_same (picked f xs) f xs (λ c has. ap {B = ℕ} (λ b. cond b (f c) 0) (any_in xs c has)) in
    omega (arith, low, high, own)

square_either : (b : Bool) (n : ℕ) → cond b n 0 * cond b n 0 ≡ cond b (n * n) 0
square_either true n = refl
square_either false n = refl

-- the squares of the terms
pub front_squares : (f : ℕ → ℕ) (xs : List ℕ) (n : ℕ) → Apart xs → ((c : ℕ) → Contains xs c → c < n) → sum_to (λ c. picked f xs c * picked f xs c) n ≡ sum_by (λ c. f c * f c) xs
front_squares f xs n apart small =
    sum_same (λ c. picked f xs c * picked f xs c) (picked (λ c. f c * f c) xs) (range_with_len 0 n) (λ c has. square_either (list_any (λ x. x == c) xs) (f c))
    ∙ front_sum (λ c. f c * f c) xs n apart small

pub nought_either : (b : Bool) (n : ℕ) → n ≡ 0 → cond b n 0 ≡ 0
nought_either true n e = e
nought_either false n e = refl

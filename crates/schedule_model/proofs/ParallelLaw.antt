-- The parallel law, over any list of slots, any counts and any tests.
use Rattle.std.proofs.Common.{◌≡◌, ℕ, ◌+◌, ◌*◌, ◌≤◌, ◌<◌, inl, inr, Bool, true, false, List, [], ◌∷◌, Contains, refl, ap, arith, le_trans}
use Rattle.std.specs.Prelude.{sum_by}
use Rattle.std.proofs.lemmas.List.Sums.{sum_by-cons}
use Rattle.coflow_units.specs.Completion.{last_where}
use Rattle.coflow_units.proofs.Sums.{in_first, in_tail, member_within_sum, sum_add, sum_mono, sum_same, sum_scale, sum_zero}
use Rattle.schedule_model.proofs.Slots.{last_later, last_here_yes, count_within_last, step_part}
use Rattle.coflow_units.proofs.Numbers.{zero_or_more}

square_at_most_one : (x : ℕ) → x ≤ 1 → x * x ≡ x
square_at_most_one x one = elim (zero_or_more x) [
  | inl e ↦ rw e refl
  | inr lt ↦ let e : x ≡ 1 = omega arith in rw e refl
]

holds_since : (b : Bool) (x : ℕ) → (b ≡ false → x ≡ 0) → 0 < x → b ≡ true
holds_since true x none lt = refl
holds_since false x none lt = absurd (omega (arith, none refl))

-- the numbers of one step: m units so far, x more in the slot
last_step : (m x s r q : ℕ) → x ≤ 1 → m * m + q ≤ 2 * s → (x + m) * (x + m) + (x + (2 * r + q)) ≤ 2 * (s + (m + (r + x)))
last_step m x s r q one before = elim (zero_or_more x) [
  | inl e ↦ rw e (omega arith)
  | inr lt ↦ let e : x ≡ 1 = omega arith in rw e (omega arith)
]

sum_part : (m x c : ℕ → ℕ) (cs : List ℕ) →
    sum_by (λ k. m k * c k + m k + x k * (m k + 1)) cs ≡ sum_by (λ k. m k * c k) cs + (sum_by m cs + (sum_by (λ k. x k * m k) cs + sum_by x cs))
sum_part m x c cs =
    let split = sum_same (λ k. m k * c k + m k + x k * (m k + 1)) (λ k. (m k * c k + m k) + (x k * m k + x k)) cs (λ k has. omega arith) in
    omega (arith, split, sum_add (λ k. m k * c k + m k) (λ k. x k * m k + x k) cs, sum_add (λ k. m k * c k) m cs, sum_add (λ k. x k * m k) x cs)

sum_square : (m x : ℕ → ℕ) (cs : List ℕ) → ((k : ℕ) → Contains cs k → x k ≤ 1) →
    sum_by (λ k. (x k + m k) * (x k + m k)) cs ≡ sum_by x cs + (2 * sum_by (λ k. x k * m k) cs + sum_by (λ k. m k * m k) cs)
sum_square m x cs one =
    let split = sum_same (λ k. (x k + m k) * (x k + m k)) (λ k. x k + (2 * (x k * m k) + m k * m k)) cs (λ k has. omega (arith, square_at_most_one (x k) (one k has))) in
    omega (arith, split, sum_add x (λ k. 2 * (x k * m k) + m k * m k) cs, sum_add (λ k. 2 * (x k * m k)) (λ k. m k * m k) cs, sum_scale 2 (λ k. x k * m k) cs)

pub parallel_core : {X : Type 0} (n : ℕ → X → ℕ) (q : ℕ → X → Bool) (cs : List ℕ) (hs : List X) →
    ((h : X) → Contains hs h → sum_by (λ k. n k h) cs ≤ 1) →
    ((k : ℕ) (h : X) → Contains hs h → q k h ≡ false → n k h ≡ 0) →
    sum_by (λ k. sum_by (n k) hs) cs * sum_by (λ k. sum_by (n k) hs) cs + sum_by (λ k. sum_by (n k) hs * sum_by (n k) hs) cs
    ≤ 2 * sum_by (λ k. sum_by (n k) hs * last_where (q k) hs) cs
parallel_core {X} n q cs [] one none = omega (arith, sum_zero {X = ℕ} cs, ap (λ z. z * z) (sum_zero {X = ℕ} cs))
parallel_core n q cs (h ∷ hs) one none =
    let m = λ (k : ℕ). sum_by (n k) hs in
    let x = λ (k : ℕ). n k h in
    let c = λ (k : ℕ). last_where (q k) hs in
    let d = λ (k : ℕ). last_where (q k) (h ∷ hs) in
    let before = parallel_core n q cs hs (λ g has. one g (in_tail h hs g has)) (λ k g has. none k g (in_tail h hs g has)) in
    let each = λ (k : ℕ) (has : Contains cs k). le_trans (member_within_sum x cs k has) (one h (in_first h hs)) in
    let small = λ (k : ℕ) (has : Contains cs k) (g : _) (in' : Contains hs g). le_trans (member_within_sum (λ j. n j g) cs k has) (one g (in_tail h hs g in')) in
    let within = λ (k : ℕ) (has : Contains cs k). count_within_last (n k) (q k) hs (small k has) (λ g in'. none k g (in_tail h hs g in')) in
    let grow = λ (k : ℕ). sum_by-cons (n k) h hs in
    let totals = sum_same (λ k. sum_by (n k) (h ∷ hs)) (λ k. x k + m k) cs (λ k has. grow k) in
    let squares = sum_same (λ k. sum_by (n k) (h ∷ hs) * sum_by (n k) (h ∷ hs)) (λ k. (x k + m k) * (x k + m k)) cs (λ k has. ap (λ z. z * z) (grow k)) in
    let ends = sum_same (λ k. sum_by (n k) (h ∷ hs) * d k) (λ k. (x k + m k) * d k) cs (λ k has. ap (λ z. z * d k) (grow k)) in
    let parts = sum_mono (λ k. m k * c k + m k + x k * (m k + 1)) (λ k. (x k + m k) * d k) cs
    (λ k has. step_part (m k) (x k) (c k) (d k) (within k has) (each k has) (last_later (q k) h hs)
    (λ e lt. last_here_yes (q k) h hs e (holds_since (q k h) (x k) (none k h (in_first h hs)) lt))) in
    let step = last_step (sum_by m cs) (sum_by x cs) (sum_by (λ k. m k * c k) cs) (sum_by (λ k. x k * m k) cs) (sum_by (λ k. m k * m k) cs) (one h (in_first h hs)) before in
    rw (totals, sum_add x m cs, squares, sum_square m x cs each, ends) (le_trans step (omega (arith, parts, sum_part m x c cs)))

-- The parallel inequality with a head start: nothing is carried in the first slots.
use Rattle.std.proofs.Common.{◌≡◌, ℕ, ◌+◌, ◌*◌, ◌≤◌, ◌<◌, inl, inr, Bool, false, List, [], ◌∷◌, Contains, ap, arith, le_trans, zero, suc}
use Rattle.std.specs.Prelude.{sum_by, take}
use Rattle.std.proofs.lemmas.List.Sums.{sum_by-cons}
use Rattle.coflow_units.specs.Completion.{last_where}
use Rattle.coflow_units.proofs.Numbers.{zero_or_more}
use Rattle.coflow_units.proofs.Sums.{in_first, in_tail, member_within_sum, sum_add, sum_mono, sum_same, sum_zero}
use Rattle.schedule_model.proofs.ParallelLaw.{parallel_core}
use Rattle.schedule_model.proofs.Slots.{count_within_last, last_later}

-- nothing of the coflows is carried in the slots
abbrev pub IsQuiet : {X : Type 0} → (ℕ → X → ℕ) → List ℕ → List X → Type 0
IsQuiet {X} n cs hs = (h : X) → Contains hs h → (k : ℕ) → Contains cs k → n k h ≡ 0

-- a coflow's part in one quiet slot: m units later, the last slot c and then d
quiet_part : (m c d : ℕ) → m ≤ c → (0 < c → d ≡ c + 1) → m * c + m ≤ m * d
quiet_part m c d within later = elim (zero_or_more c) [
  | inl e ↦ let g : m ≡ 0 = omega (arith, within, e) in rw g (omega arith)
  | inr lt ↦ rw (later lt) (omega arith)
]

quiet_numbers : (mm q a m s t : ℕ) → mm + q + 2 * (a * m) ≤ 2 * s → s + m ≤ t → mm + q + 2 * (suc a * m) ≤ 2 * t
quiet_numbers mm q a m s t before more = omega (arith, before, more)

pub late_core : {X : Type 0} (a : ℕ) (n : ℕ → X → ℕ) (q : ℕ → X → Bool) (cs : List ℕ) (hs : List X) →
    ((h : X) → Contains hs h → sum_by (λ k. n k h) cs ≤ 1) →
    ((k : ℕ) (h : X) → Contains hs h → q k h ≡ false → n k h ≡ 0) →
    IsQuiet n cs (take a hs) →
    sum_by (λ k. sum_by (n k) hs) cs * sum_by (λ k. sum_by (n k) hs) cs + sum_by (λ k. sum_by (n k) hs * sum_by (n k) hs) cs
    + 2 * (a * sum_by (λ k. sum_by (n k) hs) cs)
    ≤ 2 * sum_by (λ k. sum_by (n k) hs * last_where (q k) hs) cs
late_core zero n q cs hs one none quiet = omega (arith, parallel_core n q cs hs one none)
late_core {X} (suc a) n q cs [] one none quiet =
    let m : sum_by (λ (k : ℕ). sum_by (n k) []) cs ≡ 0 = sum_zero {X = ℕ} cs in
    let core = parallel_core n q cs [] one none in
    let gone : suc a * sum_by (λ (k : ℕ). sum_by (n k) []) cs ≡ 0 = rw m (omega arith) in
    omega (arith, core, gone)
late_core (suc a) n q cs (h ∷ hs) one none quiet =
    let m = λ (k : ℕ). sum_by (n k) hs in
    let c = λ (k : ℕ). last_where (q k) hs in
    let d = λ (k : ℕ). last_where (q k) (h ∷ hs) in
    let before = late_core a n q cs hs (λ g has. one g (in_tail h hs g has)) (λ k g has. none k g (in_tail h hs g has)) (λ g has. quiet g (in_tail h (take a hs) g has)) in
    let small = λ (k : ℕ) (has : Contains cs k) (g : _) (in' : Contains hs g). le_trans (member_within_sum (λ j. n j g) cs k has) (one g (in_tail h hs g in')) in
    let within = λ (k : ℕ) (has : Contains cs k). count_within_last (n k) (q k) hs (small k has) (λ g in'. none k g (in_tail h hs g in')) in
    let grow : (k : ℕ) → Contains cs k → sum_by (n k) (h ∷ hs) ≡ sum_by (n k) hs = λ k has. omega (arith, sum_by-cons (n k) h hs, quiet h (in_first h (take a hs)) k has) in
    let totals = sum_same (λ k. sum_by (n k) (h ∷ hs)) m cs grow in
    let squares = sum_same (λ k. sum_by (n k) (h ∷ hs) * sum_by (n k) (h ∷ hs)) (λ k. m k * m k) cs (λ k has. ap (λ z. z * z) (grow k has)) in
    let ends = sum_same (λ k. sum_by (n k) (h ∷ hs) * d k) (λ k. m k * d k) cs (λ k has. ap (λ z. z * d k) (grow k has)) in
    let parts = sum_mono (λ k. m k * c k + m k) (λ k. m k * d k) cs (λ k has. quiet_part (m k) (c k) (d k) (within k has) (last_later (q k) h hs)) in
    let split = sum_add (λ k. m k * c k) m cs in
    rw (totals, squares, ends)
    (quiet_numbers (sum_by m cs * sum_by m cs) (sum_by (λ k. m k * m k) cs) a (sum_by m cs) (sum_by (λ k. m k * c k) cs) (sum_by (λ k. m k * d k) cs) before
    (omega (arith, parts, split)))

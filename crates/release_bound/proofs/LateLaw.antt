-- Completions in a schedule that serves nobody before its arrival.
use Rattle.std.proofs.Common.{◌≡◌, ℕ, ◌+◌, ◌-◌, ◌*◌, ◌≤◌, ◌<◌, inl, inr, true, false, cond, List, [], ◌∷◌, Contains, ap, subst, arith, zero, suc}
use Rattle.std.specs.Prelude.{sum_by, take, map, not, ◌==◌}
use Rattle.std.proofs.Math.Nat.{le_of_mul-le-mul_left, max-le}
use Rattle.std.proofs.lemmas.List.Elements.{All-contains}
use Rattle.std.proofs.lemmas.List.Sums.{sum_by-cons}
use Rattle.std.proofs.lemmas.Bool.{ne_eqb}
use Rattle.coflow_units.specs.declared.fabric.Flow.{Flow}
use Rattle.coflow_units.specs.declared.fabric.Port.{Port}
use Rattle.coflow_units.specs.Load.{load, load_of_all, squares_of_loads}
use Rattle.coflow_units.specs.Schedule.{IsClear}
use Rattle.coflow_units.specs.Completion.{completion, holds_coflow}
use Rattle.coflow_units.proofs.Lists.{keeps}
use Rattle.coflow_units.proofs.Numbers.{zero_or_more}
use Rattle.coflow_units.proofs.Sums.{Apart, first_or_tail, in_first, in_tail, nothing_in, sum_same}
use Rattle.schedule_model.proofs.SlotLoads.{carried_is_load, carries, carries_none, one_per_slot}
use Rattle.release_bound.specs.Release.{IsReleased, all_ports, bottleneck, earliest_end, first_arrival, greatest_of, least_of, loaded}
use Rattle.release_bound.proofs.LateSlots.{IsQuiet, late_core}

-- ---- the first slots

take_in : {X : Type 0} (a : ℕ) (xs : List X) (x : X) → Contains (take a xs) x → Contains xs x
take_in zero xs x has = absurd (nothing_in x has)
take_in (suc a) [] x has = absurd (nothing_in x has)
take_in (suc a) (y ∷ ys) x has = elim (first_or_tail y (take a ys) x has) [
  | inl e ↦ subst (λ z. Contains (y ∷ ys) z) e (in_first y ys)
  | inr later ↦ in_tail y ys x (take_in a ys x later)
]

take_more : {X : Type 0} (a b : ℕ) (xs : List X) (x : X) → a ≤ b → Contains (take a xs) x → Contains (take b xs) x
take_more zero b xs x le has = absurd (nothing_in x has)
take_more (suc a) zero xs x le has = absurd (omega (arith, le))
take_more (suc a) (suc b) [] x le has = absurd (nothing_in x has)
take_more (suc a) (suc b) (y ∷ ys) x le has = elim (first_or_tail y (take a ys) x has) [
  | inl e ↦ subst (λ z. Contains (y ∷ take b ys) z) e (in_first y (take b ys))
  | inr later ↦ in_tail y (take b ys) x (take_more a b ys x (omega (arith, le)) later)
]

-- a slot's part is within the sum over the slots
pub member_within_sums : {X : Type 0} (w : X → ℕ) (xs : List X) (x : X) → Contains xs x → w x ≤ sum_by w xs
member_within_sums w [] x has = absurd (nothing_in x has)
member_within_sums w (y ∷ ys) x has = elim (first_or_tail y ys x has) [
  | inl e ↦ omega (arith, sum_by-cons w y ys, ap w e)
  | inr later ↦ omega (arith, sum_by-cons w y ys, member_within_sums w ys x later)
]

-- ---- least and greatest numbers

-- a number of a list is no less than its least one
pub least_below : (xs : List ℕ) (n : ℕ) → Contains xs n → least_of xs ≤ n
least_below [] n has = absurd (nothing_in n has)
least_below (x ∷ []) n has = elim (first_or_tail x [] n has) [
  | inl e ↦ omega (arith, e)
  | inr none ↦ absurd (nothing_in n none)
]
least_below (x ∷ y ∷ ys) n has = elim (first_or_tail x (y ∷ ys) n has) [
  | inl e ↦ omega (arith, e)
  | inr later ↦ omega (arith, least_below (y ∷ ys) n later)
]

pub in_map : {X Y : Type 0} (w : X → Y) (xs : List X) (c : X) → Contains xs c → Contains (map w xs) (w c)
in_map w [] c has = absurd (nothing_in c has)
in_map w (x ∷ xs) c has = elim (first_or_tail x xs c has) [
  | inl e ↦ subst (λ k. Contains (w x ∷ map w xs) (w k)) e (in_first (w x) (map w xs))
  | inr later ↦ in_tail (w x) (map w xs) (w c) (in_map w xs c later)
]

above_none : (n : ℕ) → 0 < n → not (n == 0) ≡ true
above_none n lt = ap not (ne_eqb n 0 (λ e. omega (arith, lt, e)))

-- the first arrival is at most that of each coflow with load on the port
arrives_after : (flows : List Flow) (arrival : ℕ → ℕ) (cs : List ℕ) (port : Port) (c : ℕ) → Contains cs c → 0 < load flows c port → first_arrival flows arrival cs port ≤ arrival c
arrives_after flows arrival cs port c has some =
    least_below (map arrival (loaded flows port cs)) (arrival c)
    (in_map arrival (loaded flows port cs) c (keeps (λ k. not (load flows k port == 0)) cs c has (above_none (load flows c port) some)))

pub greatest_below : (xs : List ℕ) (n : ℕ) → ((x : ℕ) → Contains xs x → x ≤ n) → greatest_of xs ≤ n
greatest_below [] n each = omega arith
greatest_below (x ∷ xs) n each = max-le (each x (in_first x xs)) (greatest_below xs n (λ y has. each y (in_tail x xs y has)))

pub from_map : {X Y : Type 0} (w : X → Y) (xs : List X) (y : Y) → Contains (map w xs) y → (x : X) × Contains xs x × (w x ≡ y)
from_map w [] y has = absurd (nothing_in y has)
from_map w (x ∷ xs) y has = elim (first_or_tail (w x) (map w xs) y has) [
  | inl e ↦ (x, in_first x xs, e)
  | inr later ↦ let (found, inside, e) = from_map w xs y later in (found, in_tail x xs found inside, e)
]

-- ---- nothing is carried in the first slots

quiet_for : (flows : List Flow) (arrival : ℕ → ℕ) (slots : List (List ℕ)) (port : Port) (cs : List ℕ) (a : ℕ) → IsReleased flows arrival slots →
    ((c : ℕ) → Contains cs c → 0 < load flows c port → a ≤ arrival c) → IsQuiet (carries flows port) cs (take a slots)
quiet_for flows arrival slots port cs a released late h in_slots c has = elim (zero_or_more (load flows c port)) [
  | inl none ↦ omega (arith, none, carried_is_load flows port c slots released.valid, member_within_sums (carries flows port c) slots h (take_in a slots h in_slots))
  | inr some ↦ carries_none flows port c h
      (All-contains (λ slot. holds_coflow flows slot c ≡ false) (take (arrival c) slots) h (released.none_early c) (take_more a (arrival c) slots h (late c has some) in_slots))
]

pub late_law : (flows : List Flow) (arrival : ℕ → ℕ) (slots : List (List ℕ)) (cs : List ℕ) (port : Port) (a : ℕ) → IsReleased flows arrival slots → Apart cs →
    ((c : ℕ) → Contains cs c → 0 < load flows c port → a ≤ arrival c) →
    load_of_all flows cs port * load_of_all flows cs port + squares_of_loads flows cs port + 2 * (a * load_of_all flows cs port) ≤
    2 * sum_by (λ c. load flows c port * completion flows slots c) cs
late_law flows arrival slots cs port a released apart late =
    let valid = released.valid in
    let m = λ (c : ℕ). sum_by (carries flows port c) slots in
    let is = λ (c : ℕ). carried_is_load flows port c slots valid in
    let core = late_core a (carries flows port) (λ c h. holds_coflow flows h c) cs slots
    (λ h has. one_per_slot flows port cs h apart (All-contains (IsClear flows) slots h valid.clear has))
    (λ c h has out. carries_none flows port c h out)
    (quiet_for flows arrival slots port cs a released late) in
    let totals = sum_same m (λ c. load flows c port) cs (λ c has. is c) in
    let squares = sum_same (λ c. m c * m c) (λ c. load flows c port * load flows c port) cs (λ c has. ap (λ n. n * n) (is c)) in
    let ends = sum_same (λ c. m c * completion flows slots c) (λ c. load flows c port * completion flows slots c) cs (λ c has. ap (λ n. n * completion flows slots c) (is c)) in
    rw (← totals, ← squares, ← ends) core

pub parallel_with_arrivals : (flows : List Flow) (arrival : ℕ → ℕ) (slots : List (List ℕ)) (cs : List ℕ) (port : Port) → IsReleased flows arrival slots → Apart cs →
    load_of_all flows cs port * load_of_all flows cs port + squares_of_loads flows cs port + 2 * (first_arrival flows arrival cs port * load_of_all flows cs port)
    ≤ 2 * sum_by (λ c. load flows c port * completion flows slots c) cs
parallel_with_arrivals flows arrival slots cs port released apart =
    late_law flows arrival slots cs port (first_arrival flows arrival cs port) released apart (λ c has some. arrives_after flows arrival cs port c has some)

-- ---- one coflow

one_apart : (c : ℕ) → Apart (c ∷ [])
one_apart c = ((λ has. nothing_in c has), tt)

alone : (m a e : ℕ) → 0 < m → m * m + m * m + 2 * (a * m) ≤ 2 * (m * e) → a + m ≤ e
alone m a e some le =
    let scaled : 2 * m * (a + m) ≤ 2 * m * e = omega (arith, le) in
    le_of_mul-le-mul_left {k = 2 * m} scaled (omega (arith, some))

one_law : (m a e total squares ends : ℕ) → 0 < m → total ≡ m → squares ≡ m * m → ends ≡ m * e → total * total + squares + 2 * (a * total) ≤ 2 * ends → a + m ≤ e
one_law m a e total squares ends some is_total is_squares is_ends law = alone m a e some (rw (is_total, is_squares, is_ends) at law)

one_ends : (flows : List Flow) (arrival : ℕ → ℕ) (slots : List (List ℕ)) (c : ℕ) (port : Port) → IsReleased flows arrival slots → 0 < load flows c port →
    arrival c + load flows c port ≤ completion flows slots c
one_ends flows arrival slots c port released some =
    let law = late_law flows arrival slots (c ∷ []) port (arrival c) released (one_apart c)
    (λ k has lt. elim (first_or_tail c [] k has) [ inl e ↦ omega (arith, ap arrival e) | inr none ↦ absurd (nothing_in k none) ]) in
    let total : load_of_all flows (c ∷ []) port ≡ load flows c port = omega (arith, sum_by-cons (λ k. load flows k port) c []) in
    let square : squares_of_loads flows (c ∷ []) port ≡ load flows c port * load flows c port = omega (arith, sum_by-cons (λ k. load flows k port * load flows k port) c []) in
    let end : sum_by (λ k. load flows k port * completion flows slots k) (c ∷ []) ≡ load flows c port * completion flows slots c =
    omega (arith, sum_by-cons (λ k. load flows k port * completion flows slots k) c []) in
    one_law (load flows c port) (arrival c) (completion flows slots c) (load_of_all flows (c ∷ []) port) (squares_of_loads flows (c ∷ []) port)
    (sum_by (λ k. load flows k port * completion flows slots k) (c ∷ [])) some total square end law

past_load : (a n e : ℕ) → (0 < n → a + n ≤ e) → n ≤ e - a
past_load a n e late = elim (zero_or_more n) [
  | inl e' ↦ omega (arith, e')
  | inr some ↦ omega (arith, late some)
]

end_from : (a n e : ℕ) → n ≤ e - a → cond {A = ℕ} (n == 0) 0 (a + n) ≤ e
end_from a n e le = elim (zero_or_more n) [
  | inl none ↦ rw none (omega arith)
  | inr some ↦ rw (ne_eqb n 0 (λ is. omega (arith, some, is))) (omega (arith, le, some))
]

pub ends_late : (flows : List Flow) (arrival : ℕ → ℕ) (slots : List (List ℕ)) (ports c : ℕ) → IsReleased flows arrival slots →
    earliest_end flows arrival ports c ≤ completion flows slots c
ends_late flows arrival slots ports c released =
    end_from (arrival c) (bottleneck flows ports c) (completion flows slots c)
    (greatest_below (map (load flows c) (all_ports ports)) (completion flows slots c - arrival c)
    (λ n has. let (port, inside, is) = from_map (load flows c) (all_ports ports) n has in
    subst (λ k. k ≤ completion flows slots c - arrival c) is
    (past_load (arrival c) (load flows c port) (completion flows slots c) (λ some. one_ends flows arrival slots c port released some))))

-- Sums of the units left, by a key of the flows, when one flow's units change.
use Rattle.std.proofs.Common.{◌≡◌, ◌≢◌, ℕ, ◌+◌, ◌-◌, ◌^◌, ◌≤◌, ◌<◌, ◌==◌, inl, inr, Bool, true, false, cond, List, length, get_or, set, replicate, refl, sym, ap, subst, ◌∙◌, arith}
use Rattle.std.proofs.Common.{length-set}
use Rattle.std.specs.Prelude.{sum_by, sum, map}
use Rattle.std.specs.List.{range_with_len}
use Rattle.std.proofs.lemmas.Bool.{cases_eq, cases_lt, eqb-true, eq-eqb}
use Rattle.std.proofs.lemmas.Grind.{get_or-set_at}
use Rattle.std.proofs.lemmas.List.{get_or-set_other, get_or_default, get_or-map, length-map, ext_get_or, length-replicate}
use Rattle.coflow_units.proofs.Lists.{number_in, numbers_apart, by_number}
use Rattle.coflow_units.proofs.Sums.{sum_same, sum_zero, sum_mono, sum_add, picked_one, member_within_sum}
use Rattle.coflow_units.specs.declared.fabric.Flow.{Flow}
use Rattle.coflow_units.specs.Flows.{units_of}
use Rattle.coflow_units.proofs.Ranges.{zero_at}
use Rattle.greedy_rates.specs.Owed.{owed_by, IsTally}

-- what a flow adds to the sum of a key
abbrev pub part : (ℕ → ℕ) → List ℕ → ℕ → ℕ → ℕ
part key left k f = cond (key f == k) (get_or left f 0) 0

-- a flow's units are within its key's sum
pub left_within : (key : ℕ → ℕ) (left table : List ℕ) (a : ℕ) → IsTally key left table → a < length left → get_or left a 0 ≤ get_or table (key a) 0
left_within key left table a tally lt =
    let whole : get_or left a 0 ≡ part key left (key a) a = sym (ap {B = ℕ} (λ b. cond b (get_or left a 0) 0) (eq-eqb (key a) (key a) refl)) in
    omega (
      arith,
      whole,
      member_within_sum (part key left (key a)) (range_with_len 0 (length left)) a (number_in 0 (length left) a (omega arith) (omega (arith, lt))),
      tally.sums (key a) (tally.within a lt),
    )

-- a key's sum is within the sum of all
pub within_all : (key : ℕ → ℕ) (left table : List ℕ) (k : ℕ) → IsTally key left table → k < length table → get_or table k 0 ≤ sum left
within_all key left table k tally lt =
    omega (
      arith,
      tally.sums k lt,
      sum_mono (part key left k) (λ f. get_or left f 0) (range_with_len 0 (length left)) (λ f _. smaller (key f == k) f),
      by_number (λ (x : ℕ). x) 0 left,
    ) where
      smaller : (b : Bool) (f : ℕ) → cond b (get_or left f 0) 0 ≤ get_or left f 0
      smaller true f = omega arith
      smaller false f = omega arith

-- one flow's units change, and the sums of its key alone with them
pub owed_changes : (key : ℕ → ℕ) (left after : List ℕ) (a k : ℕ) → length after ≡ length left → a < length left → ((f : ℕ) → f ≢ a → get_or after f 0 ≡ get_or left f 0) →
    owed_by key after k + part key left k a ≡ owed_by key left k + part key after k a
owed_changes key left after a k same lt others =
    let ns = range_with_len 0 (length left) in
    let here = number_in 0 (length left) a (omega arith) (omega (arith, lt)) in
    let once = numbers_apart 0 (length left) in
    let step : sum_by (λ f. part key after k f + cond (a == f) (part key left k f) 0) ns ≡ sum_by (λ f. part key left k f + cond (a == f) (part key after k f) 0) ns =
    sum_same (λ f. part key after k f + cond (a == f) (part key left k f) 0) (λ f. part key left k f + cond (a == f) (part key after k f) 0) ns (λ f _. at f) in
    let length_is : owed_by key after k ≡ sum_by (part key after k) ns = ap (λ n. sum_by (part key after k) (range_with_len 0 n)) same in
    omega (
      arith,
      length_is,
      step,
      sum_add (part key after k) (λ f. cond (a == f) (part key left k f) 0) ns,
      sum_add (part key left k) (λ f. cond (a == f) (part key after k f) 0) ns,
      picked_one a (part key left k) ns once here,
      picked_one a (part key after k) ns once here,
    ) where
      at : (f : ℕ) → part key after k f + cond (a == f) (part key left k f) 0 ≡ part key left k f + cond (a == f) (part key after k f) 0
      at f = elim (cases_eq a f) [
        | inl e ↦
            let yes : (a == f) ≡ true = eq-eqb a f e in
            omega (arith, ap {B = ℕ} (λ b. cond b (part key left k f) 0) yes, ap {B = ℕ} (λ b. cond b (part key after k f) 0) yes)
        | inr ne ↦
            let units : part key after k f ≡ part key left k f = ap (λ n. cond (key f == k) n 0) (others f (λ e. ne (sym e))) in
            omega (arith, units, ap (λ (n : ℕ). cond (a == f) n 0) units)
      ]

-- the table follows where the place of the flow's key changes as its units do
pub tally_follows : (key : ℕ → ℕ) (left after table : List ℕ) (a v : ℕ) → IsTally key left table → length after ≡ length left → a < length left →
    ((f : ℕ) → f ≢ a → get_or after f 0 ≡ get_or left f 0) →
    v + get_or left a 0 ≡ get_or table (key a) 0 + get_or after a 0 → IsTally key after (set table (key a) v)
tally_follows key left after table a v tally same lt others moved = record {
  within = λ f lt'. omega (arith, tally.within f (omega (arith, lt', same)), length-set table (key a) v);
  sums = λ k in'. elim (cases_eq (key a) k) [
    | inl e ↦
        let yes : (key a == k) ≡ true = eq-eqb (key a) k e in
        omega (
          arith,
          get_or-set_at table (key a) k v 0 (sym e) (tally.within a lt),
          tally.sums k (omega (arith, in', length-set table (key a) v)),
          owed_changes key left after a k same lt others,
          ap {B = ℕ} (λ b. cond b (get_or left a 0) 0) yes,
          ap {B = ℕ} (λ b. cond b (get_or after a 0) 0) yes,
          moved,
          ap (λ (n : ℕ). get_or table n 0) e,
        )
    | inr ne ↦
        let no : (key a == k) ≡ false = not_same ne in
        omega (
          arith,
          get_or-set_other table (key a) k v 0 (λ e. ne (sym e)),
          tally.sums k (omega (arith, in', length-set table (key a) v)),
          owed_changes key left after a k same lt others,
          ap {B = ℕ} (λ b. cond b (get_or left a 0) 0) no,
          ap {B = ℕ} (λ b. cond b (get_or after a 0) 0) no,
        )
  ];
} where
  not_same : {m n : ℕ} → m ≢ n → (m == n) ≡ false
  not_same {m} {n} ne = go (m == n) refl where
    go : (b : Bool) → (m == n) ≡ b → b ≡ false
    go true e = absurd (ne (eqb-true m n e))
    go false e = refl

-- ---- one flow's units grow or fall, by what was read from the tables

at_place : (xs : List ℕ) (i read : ℕ) → i < length xs → read ≡ get_or xs i read → read ≡ get_or xs i 0
at_place xs i read lt is = omega (arith, is, get_or_default xs i 0 read lt)

-- what was read is the sum of the flow's key
key_sum : (key : ℕ → ℕ) (left table : List ℕ) (a p read : ℕ) → IsTally key left table → a < length left → p ≡ key a → read ≡ get_or table p read → read ≡ get_or table (key a) 0
key_sum key left table a p read tally lt here is = at_place table p read (subst (λ (n : ℕ). n < length table) (sym here) (tally.within a lt)) is ∙
    ap (λ (n : ℕ). get_or table n 0) here

-- the sum of a flow's key has room for more units
pub room_for : (key : ℕ → ℕ) (left table : List ℕ) (a p units read : ℕ) → IsTally key left table → a < length left → p ≡ key a → read ≡ get_or table p read →
    sum left + units ≤ 2 ^ 62 → read + units ≤ 2 ^ 62
room_for key left table a p units read tally lt here is room =
    omega (arith, key_sum key left table a p read tally lt here is, within_all key left table (key a) tally (tally.within a lt), room)

-- the sum of a flow's key has the units that the flow has
pub enough_in : (key : ℕ → ℕ) (left table : List ℕ) (a p units read : ℕ) → IsTally key left table → a < length left → p ≡ key a → read ≡ get_or table p read →
    units ≤ get_or left a 0 → units ≤ read
enough_in key left table a p units read tally lt here is enough = omega (arith, key_sum key left table a p read tally lt here is, left_within key left table a tally lt, enough)

pub tally_grows : (key : ℕ → ℕ) (left table : List ℕ) (a p units was read : ℕ) → IsTally key left table → a < length left → p ≡ key a → was ≡ get_or left a was →
    read ≡ get_or table p read →
    IsTally key (set left a (was + units)) (set table p (read + units))
tally_grows key left table a p units was read tally lt here left_is table_is =
    subst (λ (n : ℕ). IsTally key (set left a (was + units)) (set table n (read + units))) (sym here)
    (tally_follows key left (set left a (was + units)) table a (read + units) tally (length-set left a (was + units)) lt (λ f ne. get_or-set_other left a f (was + units) 0 ne)
    (omega (arith, at_place left a was lt left_is, key_sum key left table a p read tally lt here table_is, get_or-set_at left a a (was + units) 0 refl lt)))

pub tally_falls : (key : ℕ → ℕ) (left table : List ℕ) (a p units was read : ℕ) → IsTally key left table → a < length left → p ≡ key a → was ≡ get_or left a was →
    read ≡ get_or table p read → units ≤ get_or left a 0 →
    IsTally key (set left a (was - units)) (set table p (read - units))
tally_falls key left table a p units was read tally lt here left_is table_is enough =
    subst (λ (n : ℕ). IsTally key (set left a (was - units)) (set table n (read - units))) (sym here)
    (tally_follows key left (set left a (was - units)) table a (read - units) tally (length-set left a (was - units)) lt (λ f ne. get_or-set_other left a f (was - units) 0 ne)
    (omega (
      arith,
      at_place left a was lt left_is,
      key_sum key left table a p read tally lt here table_is,
      get_or-set_at left a a (was - units) 0 refl lt,
      enough,
      left_within key left table a tally lt,
    )))

-- ---- where nothing is owed, and where flows come one after another

pub tally_of_nothing : (key : ℕ → ℕ) (left table : List ℕ) → ((f : ℕ) → get_or left f 0 ≡ 0) → ((k : ℕ) → get_or table k 0 ≡ 0) →
    ((f : ℕ) → f < length left → key f < length table) → IsTally key left table
tally_of_nothing key left table none empty within = record {
  within = within;
  sums = λ k lt. empty k ∙ sym (sum_same (part key left k) (λ _. 0) (range_with_len 0 (length left)) (λ f _. nothing (key f == k) f) ∙ sum_zero (range_with_len 0 (length left)));
} where
  nothing : (b : Bool) (f : ℕ) → cond b (get_or left f 0) 0 ≡ 0
  nothing true f = none f
  nothing false f = refl

-- the units of the next flow fit beside those of the flows so far
pub next_fits : (flows : List Flow) (left : List ℕ) (n : ℕ) → length left ≡ length flows → n < length flows → ((f : ℕ) → f < n → get_or left f 0 ≡ units_of flows f) →
    ((f : ℕ) → n ≤ f → get_or left f 0 ≡ 0) →
    sum left + units_of flows n ≤ sum_by (λ (x : Flow). x.units) flows
next_fits flows left n same lt done rest =
    let ns = range_with_len 0 (length left) in
    omega (
      arith,
      by_number (λ (x : ℕ). x) 0 left,
      sum_mono (λ f. get_or left f 0 + cond (n == f) (units_of flows f) 0) (units_of flows) ns (λ f _. at f),
      sum_add (λ f. get_or left f 0) (λ f. cond (n == f) (units_of flows f) 0) ns,
      picked_one n (units_of flows) ns (numbers_apart 0 (length left)) (number_in 0 (length left) n (omega arith) (omega (arith, lt, same))),
      by_number (λ (x : Flow). x.units) record { coflow = 0; ingress = 0; egress = 0; units = 0 } flows,
      ap (λ (m : ℕ). sum_by (units_of flows) (range_with_len 0 m)) same,
    ) where
      at : (f : ℕ) → get_or left f 0 + cond (n == f) (units_of flows f) 0 ≤ units_of flows f
      at f = elim (cases_eq n f) [
        | inl e ↦ omega (arith, rest f (omega (arith, e)), ap {B = ℕ} (λ b. cond b (units_of flows f) 0) (eq-eqb n f e))
        | inr ne ↦ elim (cases_lt f n) [
          | inl less ↦ omega (arith, done f less, ap {B = ℕ} (λ b. cond b (units_of flows f) 0) (differ (n == f) refl ne))
          | inr more ↦ omega (arith, rest f (omega (arith, more)), ap {B = ℕ} (λ b. cond b (units_of flows f) 0) (differ (n == f) refl ne))
        ]
      ] where
        differ : (b : Bool) → (n == f) ≡ b → n ≢ f → (n == f) ≡ false
        differ true e ne = absurd (ne (eqb-true n f e))
        differ false e ne = e

-- every flow owes its units
pub all_units : (flows : List Flow) (left : List ℕ) (n : ℕ) → length left ≡ length flows → length flows ≤ n → ((f : ℕ) → f < n → get_or left f 0 ≡ units_of flows f) →
    left ≡ map (λ (x : Flow). x.units) flows
all_units flows left n same le done = ext_get_or 0 left (map (λ (x : Flow). x.units) flows) (same ∙ sym (length-map flows (λ (x : Flow). x.units))) (λ f lt.
    done f (omega (arith, lt, same, le)) ∙ sym (get_or-map (λ (x : Flow). x.units) flows f record { coflow = 0; ingress = 0; egress = 0; units = 0 } 0 (omega (arith, lt, same))))

pub zeros_tally : (key : ℕ → ℕ) (left table : List ℕ) (n size : ℕ) → left ≡ replicate n 0 → table ≡ replicate size 0 → ((f : ℕ) → f < n → key f < size) → IsTally key left table
zeros_tally key left table n size e e' within =
    subst (λ (xs : List ℕ). IsTally key xs table) (sym e) (subst (λ (ys : List ℕ). IsTally key (replicate n 0) ys) (sym e')
    (tally_of_nothing key (replicate n 0) (replicate size 0) (zero_at n) (zero_at size)
    (λ f lt. omega (arith, within f (omega (arith, lt, length-replicate {A = ℕ} n 0)), length-replicate {A = ℕ} size 0))))

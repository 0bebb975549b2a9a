-- Sums of weight times completion.
use Rattle.std.proofs.Common.{◌≡◌, ℕ, ◌+◌, ◌*◌, ◌≤◌, ◌<◌, inl, inr, List, length, get_or, map, slice_index, sym, ap, ◌∙◌, arith, zero, suc, le_trans}
use Rattle.std.specs.Prelude.{All, sum_by}
use Rattle.std.specs.List.{range_with_len}
use Rattle.std.proofs.Math.Nat.{mul-le-mul_left}
use Rattle.std.proofs.lemmas.Bool.{cases_lt}
use Rattle.std.proofs.lemmas.List.{get_or_default, get_or_past, get_or-map, same_lists, length-map}
use Rattle.std.proofs.lemmas.List.FromFn.{get_or-map-range_with_len, get_or-range_with_len, length-range_with_len}
use Rattle.coflow_units.specs.declared.fabric.Flow.{Flow}
use Rattle.coflow_units.specs.Completion.{completion, holds_coflow}
use Rattle.coflow_units.proofs.Lists.{number_below, range_more}
use Rattle.coflow_units.proofs.Sums.{sum_same}
use Rattle.schedule_model.specs.Weights.{weight_of}
use Rattle.schedule_model.proofs.LastSlots.{last_within}

pub sum_below : (w : ℕ → ℕ) (most a n : ℕ) → ((c : ℕ) → w c ≤ most) → sum_by w (range_with_len a n) ≤ n * most
sum_below w most a zero small = omega arith
sum_below w most a (suc n) small = omega (arith, range_more w a n, sum_below w most a n small, small (a + n))

pub product_below : (a b : ℕ) → a ≤ 4294967296 → b ≤ 2199023255551 → a * b ≤ 9444732965739290427392
product_below a b la lb = omega (arith, mul-le-mul_left a lb, la)

pub weight_small : (weights : List ℕ) (c : ℕ) → All (λ w. w ≤ 4294967296) weights → weight_of weights c ≤ 4294967296
weight_small weights c small = elim (cases_lt c (length weights)) [
  | inl lt ↦ small c 0 lt
  | inr le ↦ omega (arith, get_or_past weights c 0 le)
]

-- what a coflow costs
abbrev pub part_of : List Flow → List ℕ → List (List ℕ) → ℕ → ℕ
part_of flows weights slots c = weight_of weights c * completion flows slots c

pub part_small : (flows : List Flow) (weights : List ℕ) (slots : List (List ℕ)) (c : ℕ) → All (λ w. w ≤ 4294967296) weights → length slots ≤ 2199023255551 →
    part_of flows weights slots c ≤ 9444732965739290427392
part_small flows weights slots c small short =
    product_below (weight_of weights c) (completion flows slots c) (weight_small weights c small)
    (le_trans (last_within (λ (slot : List ℕ). holds_coflow flows slot c) slots) short)

pub parts_small : (flows : List Flow) (weights : List ℕ) (slots : List (List ℕ)) (a n : ℕ) → All (λ w. w ≤ 4294967296) weights → length slots ≤ 2199023255551 →
    sum_by (part_of flows weights slots) (range_with_len a n) ≤ n * 9444732965739290427392
parts_small flows weights slots a n small short = sum_below (part_of flows weights slots) 9444732965739290427392 a n (λ c. part_small flows weights slots c small short)

-- what a coflow costs that has this weight and this end
abbrev pub priced : List ℕ → List ℕ → ℕ → ℕ
priced weights ends c = slice_index weights c * slice_index ends c

-- one coflow more
pub cost_more : (weights ends : List ℕ) (k cost a b : ℕ) → cost ≡ sum_by (priced weights ends) (range_with_len 0 k) → a ≡ slice_index weights k → b ≡ slice_index ends k →
    cost + a * b ≡ sum_by (priced weights ends) (range_with_len 0 (k + 1))
cost_more weights ends k cost a b is wa eb =
    let next : k + 1 ≡ suc k = omega arith in
    let place : 0 + k ≡ k = omega arith in
    let product : a * b ≡ priced weights ends k = ap (λ x. x * b) wa ∙ ap (λ x. slice_index weights k * x) eb in
    omega (arith, is, product, range_more (priced weights ends) 0 k, ap (priced weights ends) place, ap (λ n. sum_by (priced weights ends) (range_with_len 0 n)) next)

priced_below : (a b : ℕ) → a ≤ 4294967296 → b ≤ 18446744073709551615 → a * b ≤ 79228162514264337589248983040
priced_below a b la lb = omega (arith, mul-le-mul_left a lb, la)

pub cost_fits : (weights ends : List ℕ) (k cost a b : ℕ) → All (λ w. w ≤ 4294967296) weights → ((c : ℕ) → slice_index ends c ≤ 18446744073709551615) → k < 4294967296 →
    cost ≡ sum_by (priced weights ends) (range_with_len 0 k) → a ≤ 4294967296 → b ≤ 18446744073709551615 →
    cost + a * b < 340282366920938463463374607431768211456
cost_fits weights ends k cost a b small short few is la lb =
    let each = sum_below (priced weights ends) 79228162514264337589248983040 0 k
    (λ c. priced_below (slice_index weights c) (slice_index ends c) (weight_small weights c small) (short c)) in
    omega (arith, is, each, priced_below a b la lb, few)

-- the cost of a schedule, by its completions
pub cost_by_ends : (flows : List Flow) (slots : List (List ℕ)) (weights ends : List ℕ) (n : ℕ) → ends ≡ map (λ c. completion flows slots c) (range_with_len 0 n) →
    sum_by (priced weights ends) (range_with_len 0 n) ≡ sum_by (part_of flows weights slots) (range_with_len 0 n)
cost_by_ends flows slots weights ends n are =
    sum_same (priced weights ends) (part_of flows weights slots) (range_with_len 0 n) (λ c in'.
    ap (λ e. slice_index weights c * e)
    (ap (λ l. slice_index l c) are ∙
    get_or-map-range_with_len (λ k. completion flows slots k) 0 n c c 0 (let low = number_below 0 n c in' in omega (arith, low)) (omega arith)))

-- a list that has each value at its place
pub by_place : (f : ℕ → ℕ) (xs : List ℕ) (n : ℕ) → length xs ≡ n → ((k : ℕ) → k < n → get_or xs k 0 ≡ f k) → xs ≡ map f (range_with_len 0 n)
by_place f xs n count at = same_lists xs (map f (range_with_len 0 n)) (omega (arith, count, length-map (range_with_len 0 n) f, length-range_with_len 0 n)) (λ k d lt.
    let in' : k < n = omega arith in
    let place : 0 + k ≡ k = omega arith in
    get_or_default xs k d 0 lt ∙ at k in' ∙ sym (get_or-map f (range_with_len 0 n) k 0 d (omega (arith, length-range_with_len 0 n)) ∙
    ap f (get_or-range_with_len 0 n k 0 in' ∙ place)))

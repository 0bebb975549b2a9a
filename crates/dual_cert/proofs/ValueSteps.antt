-- The sums over the places, place by place, and how large they can be.
use Rattle.std.proofs.Common.{◌≡◌, ℕ, ◌+◌, ◌*◌, ◌/◌, ◌%◌, ◌^◌, ◌<◌, ◌≤◌, inl, inr, List, [], ◌∷◌, length, sym, ap, ap₂, ◌∙◌, arith, min}
use Rattle.std.specs.Prelude.{All, slice_index, sum_by}
use Rattle.std.specs.List.{range_with_len}
use Rattle.std.proofs.lemmas.Bool.{cases_lt}
use Rattle.std.proofs.lemmas.Grind.{div_ceil_times}
use Rattle.std.proofs.lemmas.List.FromFn.{length-range_with_len}
use Rattle.std.proofs.lemmas.List.Sums.{sum_by-cons}
use Rattle.std.proofs.Math.ListN.{get_or-eq_default}
use Rattle.std.proofs.Math.Nat.{lt_of_mul-lt-mul_right, mul-le-mul, mul-le-mul_right}
use Rattle.coflow_units.specs.declared.fabric.Flow.{Flow}
use Rattle.coflow_units.specs.declared.fabric.Port.{Port}
use Rattle.coflow_units.specs.Load.{load, load_of_all, squares_of_loads}
use Rattle.coflow_units.specs.Certificate.{Entry, budget, div_up, dual_value, front, front_load, over_places, rest, scale, unspent, used}
use Rattle.coflow_units.proofs.Numbers.{div_up_covers, div_up_least}
use Rattle.coflow_units.proofs.Sums.{apart_from_pairs, members_at_most, sum_mono, sum_same}
use Rattle.port_load.specs.LoadTable.{LoadTable, load_at, total_at}
use Rattle.port_load.proofs.Grid.{below_in}
use Rattle.dual_cert.specs.declared.cert.Charge.{Charge}
use Rattle.dual_cert.specs.PlaceTable.{is_up_to, load_up_to}
use Rattle.dual_cert.specs.TableCertificate.{HasLoadsOf, HasWeightsOf, IsCertificateOf, StaysInBudget, all_entries, charge_at, coflow_at, entries_to, port_at}
use Rattle.dual_cert.proofs.FirstPlaces.{entries_more, first_apart, first_in, first_places, first_value, named_in, port_in}
use Rattle.dual_cert.proofs.FrontSums.{front_squares, front_sum, nought_either, sum_past, sum_to, sum_within}
use Rattle.dual_cert.proofs.SizeLaws.{square_of_sum, unspent_fits, value_fits}

-- rounding up, in the words of the machine
pub div_ceil_is : (n d : ℕ) → 0 < d → n / d + min 1 (n % d) ≡ div_up n d
div_ceil_is n d some =
    let q = n / d + min 1 (n % d) in
    let (covers, near) = div_ceil_times n d some in
    let low = div_up_least n d q some covers in
    let near' : q * d < n + d = near in
    let high : q * d < (div_up n d + 1) * d = omega (arith, near', div_up_covers n d some) in
    omega (arith, low, lt_of_mul-lt-mul_right d high)

-- ---- the load of a port over the first places, in the words of the table

abbrev pub table_load : LoadTable → Port → List ℕ → ℕ
table_load t port coflows = sum_by (λ c. load_at t c port) coflows

abbrev pub table_squares : LoadTable → Port → List ℕ → ℕ
table_squares t port coflows = sum_by (λ c. load_at t c port * load_at t c port) coflows

-- it is at most the load of all coflows
pub load_within : (t : LoadTable) (port : Port) (charges : List Charge) (k : ℕ) → IsCertificateOf t (all_entries charges) →
    table_load t port (front (entries_to k charges)) ≤ total_at t port
load_within t port charges k certificate =
    members_at_most (λ c. load_at t c port) (front (entries_to k charges)) (range_with_len 0 t.coflows)
    (first_apart k charges (apart_from_pairs (front (all_entries charges)) certificate.once))
    (λ c has some. below_in t.coflows c (named_in t (all_entries charges) certificate c (first_in k charges c has)))

pub squares_within : (t : LoadTable) (port : Port) (coflows : List ℕ) → table_squares t port coflows ≤ table_load t port coflows * table_load t port coflows
squares_within t port coflows = square_of_sum (λ c. load_at t c port) coflows

-- it is that of the flows
pub load_is : (flows : List Flow) (t : LoadTable) (port : Port) (charges : List Charge) (k : ℕ) → HasLoadsOf flows t (all_entries charges) → port.number < t.ports →
    table_load t port (front (entries_to k charges)) ≡ load_of_all flows (front (entries_to k charges)) port
load_is flows t port charges k has lt = sum_same (λ c. load_at t c port) (λ c. load flows c port) (front (entries_to k charges)) (λ c in'. has c port (first_in k charges c in') lt)

pub squares_are : (flows : List Flow) (t : LoadTable) (port : Port) (charges : List Charge) (k : ℕ) → HasLoadsOf flows t (all_entries charges) → port.number < t.ports →
    table_squares t port (front (entries_to k charges)) ≡ squares_of_loads flows (front (entries_to k charges)) port
squares_are flows t port charges k has lt =
    sum_same (λ c. load_at t c port * load_at t c port) (λ c. load flows c port * load flows c port) (front (entries_to k charges))
    (λ c in'. ap (λ n. n * n) (has c port (first_in k charges c in') lt))

-- the load of the last of the first places over its front
pub front_load_is : (flows : List Flow) (charges : List Charge) (k : ℕ) → k < length charges →
    front_load flows (entries_to (k + 1) charges) ≡ load_of_all flows (front (entries_to (k + 1) charges)) (port_at charges k)
front_load_is flows charges k lt =
    let e = entries_more k charges lt in
    ap (front_load flows) e ∙ sym (ap (λ l. load_of_all flows (front l) (port_at charges k)) e)

-- ---- the same along all coflows by number

abbrev pub square_up_to : LoadTable → List Charge → ℕ → ℕ → ℕ
square_up_to t charges k c = load_up_to t charges k c * load_up_to t charges k c

pub front_total : (t : LoadTable) (charges : List Charge) (k : ℕ) → IsCertificateOf t (all_entries charges) →
    sum_to (load_up_to t charges k) t.coflows ≡ table_load t (port_at charges k) (front (entries_to (k + 1) charges))
front_total t charges k certificate =
    front_sum (λ c. load_at t c (port_at charges k)) (front (entries_to (k + 1) charges)) t.coflows
    (first_apart (k + 1) charges (apart_from_pairs (front (all_entries charges)) certificate.once))
    (λ c has. named_in t (all_entries charges) certificate c (first_in (k + 1) charges c has))

pub front_squares_total : (t : LoadTable) (charges : List Charge) (k : ℕ) → IsCertificateOf t (all_entries charges) →
    sum_to (square_up_to t charges k) t.coflows ≡ table_squares t (port_at charges k) (front (entries_to (k + 1) charges))
front_squares_total t charges k certificate =
    front_squares (λ c. load_at t c (port_at charges k)) (front (entries_to (k + 1) charges)) t.coflows
    (first_apart (k + 1) charges (apart_from_pairs (front (all_entries charges)) certificate.once))
    (λ c has. named_in t (all_entries charges) certificate c (first_in (k + 1) charges c has))

-- coflows without load on the port are passed by
pub total_past : (t : LoadTable) (charges : List Charge) (k m n : ℕ) → m ≤ n → ((c : ℕ) → m ≤ c → c < n → load_at t c (port_at charges k) ≡ 0) →
    sum_to (load_up_to t charges k) n ≡ sum_to (load_up_to t charges k) m
total_past t charges k m n le none = sum_past (load_up_to t charges k) m n le (λ c lc lt. nought_either (is_up_to charges k c) (load_at t c (port_at charges k)) (none c lc lt))

pub squares_past : (t : LoadTable) (charges : List Charge) (k m n : ℕ) → m ≤ n → ((c : ℕ) → m ≤ c → c < n → load_at t c (port_at charges k) ≡ 0) →
    sum_to (square_up_to t charges k) n ≡ sum_to (square_up_to t charges k) m
squares_past t charges k m n le none =
    sum_past (square_up_to t charges k) m n le (λ c lc lt. let e = nought_either (is_up_to charges k c) (load_at t c (port_at charges k)) (none c lc lt) in ap (λ x. x * x) e)

pub square_fits : (n : ℕ) → n ≤ 2 ^ 40 → n * n ≤ 2 ^ 80
square_fits n le = let h : n * n ≤ 2 ^ 40 * 2 ^ 40 = mul-le-mul le le in h

-- what is added up on the way stays within the limits
pub total_small : (t : LoadTable) (charges : List Charge) (k n : ℕ) → IsCertificateOf t (all_entries charges) → ((port : Port) → port.number < t.ports → total_at t port ≤ 2 ^ 40) →
    k < length charges → n ≤ t.coflows →
    sum_to (load_up_to t charges k) n ≤ 2 ^ 40
total_small t charges k n certificate totals lt le =
    omega (
      arith,
      sum_within (load_up_to t charges k) n t.coflows le,
      front_total t charges k certificate,
      load_within t (port_at charges k) charges (k + 1) certificate,
      totals (port_at charges k) (port_in t charges k certificate lt),
    )

pub squares_small : (t : LoadTable) (charges : List Charge) (k n : ℕ) → IsCertificateOf t (all_entries charges) →
    ((port : Port) → port.number < t.ports → total_at t port ≤ 2 ^ 40) → k < length charges → n ≤ t.coflows →
    sum_to (square_up_to t charges k) n ≤ 2 ^ 80
squares_small t charges k n certificate totals lt le =
    let whole : table_load t (port_at charges k) (front (entries_to (k + 1) charges)) ≤ 2 ^ 40 =
    omega (arith, load_within t (port_at charges k) charges (k + 1) certificate, totals (port_at charges k) (port_in t charges k certificate lt)) in
    omega (
      arith,
      sum_within (square_up_to t charges k) n t.coflows le,
      front_squares_total t charges k certificate,
      squares_within t (port_at charges k) (front (entries_to (k + 1) charges)),
      square_fits (table_load t (port_at charges k) (front (entries_to (k + 1) charges))) whole,
    )

-- ---- the sums over places

pub record ValueSoFar (t : LoadTable) (charges : List Charge) (value k : ℕ) : Type 0 where
  pub is : (flows : List Flow) → HasLoadsOf flows t (all_entries charges) → value ≡ dual_value flows (entries_to k charges)

pub value_more : (flows : List Flow) (charges : List Charge) (k : ℕ) → k < length charges →
    dual_value flows (entries_to (k + 1) charges) ≡
    (charge_at charges k).y * (front_load flows (entries_to (k + 1) charges) * front_load flows (entries_to (k + 1) charges) +
    squares_of_loads flows (front (entries_to (k + 1) charges)) (port_at charges k)) + dual_value flows (entries_to k charges)
value_more flows charges k lt =
    let e = entries_more k charges lt in
    let y = (charge_at charges k).y in
    ap (dual_value flows) e ∙ sym (ap (λ l. y * (front_load flows l * front_load flows l + squares_of_loads flows (front l) (port_at charges k)) +
    dual_value flows (entries_to k charges)) e)

pub record UnspentSoFar (t : LoadTable) (weights : List ℕ) (charges : List Charge) (sum k : ℕ) : Type 0 where
  pub is : (flows : List Flow) (weight : ℕ → ℕ) → HasLoadsOf flows t (all_entries charges) → HasWeightsOf weight weights (all_entries charges) →
      sum ≡ over_places flows (rest flows weight (all_entries charges)) (entries_to k charges)

pub places_more : (flows : List Flow) (number : ℕ → ℕ) (charges : List Charge) (k : ℕ) → k < length charges →
    over_places flows number (entries_to (k + 1) charges) ≡ number (coflow_at charges k) * front_load flows (entries_to (k + 1) charges) +
    over_places flows number (entries_to k charges)
places_more flows number charges k lt =
    let e = entries_more k charges lt in
    ap (over_places flows number) e ∙ sym (ap (λ l. number (coflow_at charges k) * front_load flows l + over_places flows number (entries_to k charges)) e)

-- ---- sizes

sum_of_same : (k : ℕ) (xs : List ℕ) → sum_by (λ x. k) xs ≡ length xs * k
sum_of_same k [] = omega arith
sum_of_same k (x ∷ xs) = omega (arith, sum_by-cons (λ y. k) x xs, sum_of_same k xs)

pub weight_small : (weights : List ℕ) (most c : ℕ) → All (λ w. w ≤ most) weights → slice_index weights c ≤ most
weight_small weights most c all = elim (cases_lt c (length weights)) [
  | inl lt ↦ all c 0 lt
  | inr le ↦ omega (arith, get_or-eq_default weights 0 le)
]

pub budgets_within : (t : LoadTable) (weight : ℕ → ℕ) (weights : List ℕ) (entries : List Entry) (most : ℕ) → IsCertificateOf t entries → HasWeightsOf weight weights entries →
    All (λ w. w ≤ most) weights →
    sum_by (budget weight) (front entries) ≤ t.coflows * (most * scale)
budgets_within t weight weights entries most certificate has all =
    let k = most * scale in
    let one = sum_mono (budget weight) (λ c. k) (front entries) (λ c in'. mul-le-mul_right scale (omega (arith, has c in', weight_small weights most c all))) in
    let two = members_at_most (λ c. k) (front entries) (range_with_len 0 t.coflows) (apart_from_pairs (front entries) certificate.once)
    (λ c in' some. below_in t.coflows c (named_in t entries certificate c in')) in
    let three = sum_of_same k (range_with_len 0 t.coflows) in
    let four = ap (λ n. n * k) (length-range_with_len 0 t.coflows) in
    omega (arith, one, two, three, four)

pub fronts_within : (t : LoadTable) (flows : List Flow) (entries : List Entry) (most : ℕ) → IsCertificateOf t entries → HasLoadsOf flows t entries →
    ((port : Port) → port.number < t.ports → total_at t port ≤ most) →
    (port : Port) → port.number < t.ports → load_of_all flows (front entries) port ≤ most
fronts_within t flows entries most certificate has totals port lt =
    let same = sum_same (λ c. load flows c port) (λ c. load_at t c port) (front entries) (λ c in'. sym (has c port in' lt)) in
    let within = members_at_most (λ c. load_at t c port) (front entries) (range_with_len 0 t.coflows) (apart_from_pairs (front entries) certificate.once)
    (λ c in' some. below_in t.coflows c (named_in t entries certificate c in')) in
    omega (arith, same, within, totals port lt)

-- the dual value of a feasible certificate within the limits is at most 2^125, and so is twice what it leaves unspent
pub value_small : (t : LoadTable) (weights : List ℕ) (entries : List Entry) → IsCertificateOf t entries → t.coflows ≤ 4096 →
    ((port : Port) → port.number < t.ports → total_at t port ≤ 2 ^ 40) → All (λ w. w ≤ 2 ^ 32) weights →
    (stays : StaysInBudget t weights entries) → dual_value stays.flows entries ≤ 2 ^ 125
value_small t weights entries certificate few totals all stays =
    let fits = value_fits stays.flows stays.weight t.ports (2 ^ 40) entries (apart_from_pairs (front entries) certificate.once) certificate.port stays.feasible
    (fronts_within t stays.flows entries (2 ^ 40) certificate stays.has_loads totals) in
    let budgets = budgets_within t stays.weight weights entries (2 ^ 32) certificate stays.has_weights all in
    omega (arith, fits, budgets, few)

pub unspent_small : (t : LoadTable) (weights : List ℕ) (entries : List Entry) → IsCertificateOf t entries → t.coflows ≤ 4096 →
    ((port : Port) → port.number < t.ports → total_at t port ≤ 2 ^ 40) → All (λ w. w ≤ 2 ^ 32) weights →
    (stays : StaysInBudget t weights entries) → unspent stays.flows stays.weight entries ≤ 2 ^ 124
unspent_small t weights entries certificate few totals all stays =
    let fits = unspent_fits stays.flows stays.weight t.ports (2 ^ 40) entries certificate.port (fronts_within t stays.flows entries (2 ^ 40) certificate stays.has_loads totals) in
    let budgets = budgets_within t stays.weight weights entries (2 ^ 32) certificate stays.has_weights all in
    omega (arith, fits, budgets, few)

-- ---- one more place

-- the square of a place's front load and the squares of its coflows' loads
abbrev pub IsSquares : LoadTable → List Charge → ℕ → ℕ → Type 0
IsSquares t charges k n = (flows : List Flow) → HasLoadsOf flows t (all_entries charges) →
    n ≡ front_load flows (entries_to (k + 1) charges) * front_load flows (entries_to (k + 1) charges) +
    squares_of_loads flows (front (entries_to (k + 1) charges)) (port_at charges k)

pub value_step : (t : LoadTable) (charges : List Charge) (value k n : ℕ) → ValueSoFar t charges value k → IsSquares t charges k n → k < length charges →
    ValueSoFar t charges (value + (charge_at charges k).y * n) (k + 1)
value_step t charges value k n so_far is lt = record {
  is = λ flows has. omega (arith, so_far.is flows has, ap (λ m. (charge_at charges k).y * m) (is flows has), value_more flows charges k lt);
}

abbrev pub IsPaidFor : LoadTable → List Entry → Type 0
IsPaidFor t entries = (weights : List ℕ) × All (λ w. w ≤ 2 ^ 32) weights × StaysInBudget t weights entries

pub value_fits_so_far : (t : LoadTable) (charges : List Charge) (value k : ℕ) → IsCertificateOf t (all_entries charges) → t.coflows ≤ 4096 →
    ((port : Port) → port.number < t.ports → total_at t port ≤ 2 ^ 40) →
    IsPaidFor t (all_entries charges) → ValueSoFar t charges value k → value ≤ 2 ^ 125
value_fits_so_far t charges value k certificate few totals (weights, all, stays) so_far =
    omega (arith, so_far.is stays.flows stays.has_loads, first_value stays.flows k charges, value_small t weights (all_entries charges) certificate few totals all stays)

-- what the coflow of a place keeps, as told for all flows and weights that fit
abbrev pub IsKeptAt : LoadTable → List ℕ → List Charge → ℕ → ℕ → Type 0
IsKeptAt t weights charges k kept = (flows : List Flow) (weight : ℕ → ℕ) → HasLoadsOf flows t (all_entries charges) → HasWeightsOf weight weights (all_entries charges) →
    used flows (all_entries charges) (coflow_at charges k) + kept ≡ budget weight (coflow_at charges k)

abbrev pub IsFrontLoad : LoadTable → List Charge → ℕ → ℕ → Type 0
IsFrontLoad t charges k n = (flows : List Flow) → HasLoadsOf flows t (all_entries charges) → n ≡ front_load flows (entries_to (k + 1) charges)

pub unspent_step : (t : LoadTable) (weights : List ℕ) (charges : List Charge) (sum k kept n : ℕ) → UnspentSoFar t weights charges sum k → IsKeptAt t weights charges k kept →
    IsFrontLoad t charges k n → k < length charges →
    UnspentSoFar t weights charges (sum + kept * n) (k + 1)
unspent_step t weights charges sum k kept n so_far keeps is lt = record {
  is = λ flows weight has hasw.
      let r = rest flows weight (all_entries charges) in
      let kept_is : kept ≡ r (coflow_at charges k) = omega (arith, keeps flows weight has hasw) in
      omega (arith, so_far.is flows weight has hasw, ap₂ (λ a b. a * b) kept_is (is flows has), places_more flows r charges k lt);
}

pub unspent_fits_so_far : (t : LoadTable) (weights : List ℕ) (charges : List Charge) (sum k : ℕ) → IsCertificateOf t (all_entries charges) → t.coflows ≤ 4096 →
    ((port : Port) → port.number < t.ports → total_at t port ≤ 2 ^ 40) →
    All (λ w. w ≤ 2 ^ 32) weights → StaysInBudget t weights (all_entries charges) → UnspentSoFar t weights charges sum k → sum ≤ 2 ^ 124
unspent_fits_so_far t weights charges sum k certificate few totals all stays so_far =
    omega (
      arith,
      so_far.is stays.flows stays.weight stays.has_loads stays.has_weights,
      first_places stays.flows (rest stays.flows stays.weight (all_entries charges)) k charges,
      unspent_small t weights (all_entries charges) certificate few totals all stays,
    )

-- The table of loads before the first place.
use Rattle.std.proofs.Common.{◌≡◌, ℕ, ◌*◌, ◌^◌, ◌<◌, ◌≤◌, inl, inr, Bool, true, false, cond, List, [], ◌∷◌, ◌++◌, length, take, Contains}
use Rattle.std.proofs.Common.{sym, ap, subst, ◌∙◌, arith, length-take-le}
use Rattle.std.specs.Prelude.{filter, sum_by, slice_index}
use Rattle.std.specs.List.{range_with_len}
use Rattle.std.proofs.lemmas.Bool.{cases_Bool}
use Rattle.std.proofs.Math.Seq.{take-append_seam}
use Rattle.coflow_units.specs.declared.fabric.Port.{Port}
use Rattle.coflow_units.specs.Flows.{Instance, IsDistinct}
use Rattle.coflow_units.proofs.Sums.{Apart, pairs_from_apart, sum_mono}
use Rattle.coflow_units.proofs.Ranges.{in_range}
use Rattle.coflow_units.proofs.Lists.{filter_in, keeps}
use Rattle.port_load.specs.LoadTable.{IsSameSize, LoadTable, is_present, load_at, total_at}
use Rattle.port_load.proofs.Grid.{below_in, range_apart}
use Rattle.bssi_order.specs.Order.{IsOf, present_coflows}
use Rattle.bssi_order.specs.Step.{IsReady, Stands}

filter_apart : (p : ℕ → Bool) (xs : List ℕ) → Apart xs → Apart (filter p xs)
filter_apart p [] apart = tt
filter_apart p (x ∷ xs) apart = elim (cases_Bool (p x)) [
  | inl t ↦ subst (λ b. Apart (cond b (x ∷ filter p xs) (filter p xs))) (sym t) ((λ has. apart.0 (filter_in p xs x has).0), filter_apart p xs apart.1)
  | inr f ↦ subst (λ b. Apart (cond b (x ∷ filter p xs) (filter p xs))) (sym f) (filter_apart p xs apart.1)
]

-- what is known before the first place: the absent coflows are dropped, and the residuals are the budgets
pub record IsBegun (t₀ t : LoadTable) (weights residuals : List ℕ) (present : List Bool) : Type 0 where
  pub size : IsSameSize t₀ t
  pub coflows_limit : t₀.coflows ≤ 4096
  pub present_len : length present ≡ t₀.coflows
  pub residuals_len : length residuals ≡ t₀.coflows
  pub weights_fit : (c : ℕ) → c < t₀.coflows → slice_index weights c ≤ 2 ^ 32
  pub totals_fit : (port : Port) → port.number < t₀.ports → total_at t₀ port ≤ 2 ^ 40
  pub stay : (c : ℕ) (port : Port) → c < t₀.coflows → port.number < t₀.ports → is_present present c ≡ true → load_at t c port ≡ load_at t₀ c port
  pub gone : (c : ℕ) (port : Port) → c < t₀.coflows → port.number < t₀.ports → is_present present c ≡ false → load_at t c port ≡ 0
  pub budgets : (c : ℕ) → c < t₀.coflows → slice_index residuals c ≡ slice_index weights c * 2 ^ 40

pub budget_fits : (w : ℕ) → w ≤ 2 ^ 32 → w * 2 ^ 40 ≤ 2 ^ 72
budget_fits w le = omega arith

begun_load : (t₀ t : LoadTable) (weights residuals : List ℕ) (present : List Bool) → IsBegun t₀ t weights residuals present → (c : ℕ) (port : Port) → c < t₀.coflows →
    port.number < t₀.ports → load_at t c port ≤ load_at t₀ c port
begun_load t₀ t weights residuals present begun c port lc lp = elim (cases_Bool (is_present present c)) [
  | inl here ↦ omega (arith, begun.stay c port lc lp here)
  | inr out ↦ omega (arith, begun.gone c port lc lp out)
]

begun_total : (t₀ t : LoadTable) (weights residuals : List ℕ) (present : List Bool) → IsBegun t₀ t weights residuals present → (port : Port) → port.number < t₀.ports →
    total_at t port ≤ total_at t₀ port
begun_total t₀ t weights residuals present begun port lp =
    omega (
      arith,
      ap (λ n. sum_by (λ c. load_at t c port) (range_with_len 0 n)) begun.size.coflows,
      sum_mono (λ c. load_at t c port) (λ c. load_at t₀ c port) (range_with_len 0 t₀.coflows)
          (λ c has. begun_load t₀ t weights residuals present begun c port (in_range t₀.coflows c has) lp),
    )

pub ready_first : (t₀ t : LoadTable) (weights residuals : List ℕ) (present : List Bool) → IsBegun t₀ t weights residuals present → IsReady t residuals present
ready_first t₀ t weights residuals present begun = record {
  coflows_limit = omega (arith, begun.coflows_limit, begun.size.coflows);
  residuals_len = begun.residuals_len ∙ sym begun.size.coflows;
  waiting_len = begun.present_len ∙ sym begun.size.coflows;
  residuals_fit = λ c lc.
      let lc' = subst (λ n. c < n) begun.size.coflows lc in
      omega (arith, begun.budgets c lc', budget_fits (slice_index weights c) (begun.weights_fit c lc'));
  totals_fit = λ port lp.
      let lp' = subst (λ n. port.number < n) begun.size.ports lp in
      omega (arith, begun_total t₀ t weights residuals present begun port lp', begun.totals_fit port lp');
  loads_wait = λ c port lc lp out. begun.gone c port (subst (λ n. c < n) begun.size.coflows lc) (subst (λ n. port.number < n) begun.size.ports lp) out;
}

marked_in : (present : List Bool) (coflows : List ℕ) (n : ℕ) → coflows ≡ present_coflows present → length present ≡ n → (c : ℕ) → Contains coflows c →
    (c < n) × (is_present present c ≡ true)
marked_in present coflows n is len c has =
    let (within, mark) = filter_in (is_present present) (range_with_len 0 (length present)) c (subst (λ cs. Contains cs c) is has) in
    (omega (arith, in_range (length present) c within, len), mark)

pub stands_first : (i : Instance) (t₀ t : LoadTable) (weights residuals : List ℕ) (present : List Bool) → IsOf i t₀ weights present → IsBegun t₀ t weights residuals present →
    Stands i [] i.coflows t residuals present
stands_first i t₀ t weights residuals present of begun =
    let marked = marked_in present i.coflows t₀.coflows of.coflows begun.present_len in
    record {
      ports = of.ports ∙ sym begun.size.ports;
      distinct = subst IsDistinct (sym of.coflows)
          (pairs_from_apart (present_coflows present) (filter_apart (is_present present) (range_with_len 0 (length present)) (range_apart (length present))));
      members = λ c has. (subst (λ n. c < n) (sym begun.size.coflows) (marked c has).0, (marked c has).1);
      all = λ c lc mark. subst (λ cs. Contains cs c) (sym of.coflows)
          (keeps (is_present present) (range_with_len 0 (length present)) c (below_in (length present) c (omega (arith, lc, begun.size.coflows, begun.present_len))) mark);
      load = λ c port has lp.
          let lp' = subst (λ n. port.number < n) begun.size.ports lp in
          begun.stay c port (marked c has).0 lp' (marked c has).1 ∙ of.load c port has (subst (λ n. port.number < n) (sym of.ports) lp');
      residual = λ c has. omega (arith, begun.budgets c (marked c has).0, ap (λ n. n * 2 ^ 40) (of.weight c has));
    }

-- ---- lists that were lent in part

pub take_front : {X : Type 0} (n : ℕ) (xs ys : List X) → length xs ≡ n → take n (xs ++ ys) ≡ xs
take_front n xs ys len = subst (λ k. take k (xs ++ ys) ≡ xs) len (take-append_seam xs ys)

pub length_part : {X : Type 0} (n : ℕ) (xs ys : List X) → length xs ≡ length (take n ys) → n ≤ length ys → length xs ≡ n
length_part n xs ys len le = omega (arith, len, length-take-le n ys le)

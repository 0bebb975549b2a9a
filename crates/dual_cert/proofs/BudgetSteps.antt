-- What the coflows pay, place by place, and the least one that pays more than its budget.
use Rattle.std.proofs.Common.{◌≡◌, ℕ, ◌+◌, ◌-◌, ◌*◌, ◌^◌, ◌<◌, ◌≤◌, inl, inr, ◌⊎◌, List, cond, length, min, Contains, refl, sym, ap, subst, ◌∙◌, arith, length-set}
use Rattle.std.specs.Prelude.{◌==◌, slice_index, slice_set}
use Rattle.std.specs.List.{list_any}
use Rattle.std.proofs.lemmas.Bool.{both_ways, cases_Bool, cases_eq, cases_lt}
use Rattle.std.proofs.lemmas.List.{get_or-set_same, get_or-set_other}
use Rattle.coflow_units.specs.declared.fabric.Flow.{Flow}
use Rattle.coflow_units.specs.Load.{load}
use Rattle.coflow_units.specs.Certificate.{IsFeasible, budget, front, scale, used}
use Rattle.coflow_units.proofs.CertificateSteps.{used_in, used_outside}
use Rattle.coflow_units.proofs.Sums.{any_has, any_in, in_tail}
use Rattle.port_load.specs.LoadTable.{LoadTable, load_at}
use Rattle.dual_cert.specs.declared.cert.Charge.{Charge}
use Rattle.dual_cert.specs.PlaceTable.{is_up_to, load_up_to}
use Rattle.dual_cert.specs.TableCertificate.{HasLoadsOf, HasWeightsOf, IsCertificateOf, IsLeastInfeasible, all_entries, charge_at, coflow_at, entries_to, entry_at, port_at}
use Rattle.dual_cert.proofs.FirstPlaces.{entries_more, entries_whole, first_in, in_front, named_in, port_in}
use Rattle.dual_cert.proofs.FrontSums.{nought_either}

-- the greatest number of 128 bits
abbrev pub most : ℕ
most = 2 ^ 128 - 1

pub placed_in : (charges : List Charge) (place : ℕ) → place < length charges → Contains (front (all_entries charges)) (coflow_at charges place)
placed_in charges place lt = subst (λ l. Contains (front l) (coflow_at charges place)) (entries_whole (length charges) charges (omega arith))
    (in_front (length charges) charges place lt (omega arith))

-- ---- one place charges the coflows of its front

-- what a place adds to what the coflow uses
pub used_more : (flows : List Flow) (t : LoadTable) (charges : List Charge) (k c : ℕ) → IsCertificateOf t (all_entries charges) → HasLoadsOf flows t (all_entries charges) →
    k < length charges →
    used flows (entries_to (k + 1) charges) c ≡ used flows (entries_to k charges) c + (charge_at charges k).y * load_up_to t charges k c
used_more flows t charges k c certificate has lt =
    let y = (charge_at charges k).y in
    let more = entries_more k charges lt in
    let f = load_at t c (port_at charges k) in
    elim (cases_Bool (is_up_to charges k c)) [
      | inl e ↦
          let there = any_has (front (entries_to (k + 1) charges)) c e in
          let here = subst (λ l. Contains (front l) c) more there in
          let step = ap (λ l. used flows l c) more ∙ used_in flows (entry_at (charge_at charges k)) (entries_to k charges) c here in
          let loads = has c (port_at charges k) (first_in (k + 1) charges c there) (port_in t charges k certificate lt) in
          omega (arith, step, ap (λ n. y * n) loads, ap {B = ℕ} (λ b. y * cond b f 0) e)
      | inr e ↦
          let out : Contains (front (entries_to (k + 1) charges)) c → ⊥ = λ there. both_ways (is_up_to charges k c) e (any_in (front (entries_to (k + 1) charges)) c there) in
          let out' : Contains (front (entries_to k charges)) c →
          ⊥ = λ there. out (subst (λ l. Contains (front l) c) (sym more) (in_tail (coflow_at charges k) (front (entries_to k charges)) c there)) in
          omega (arith, used_outside flows (entries_to (k + 1) charges) c out, used_outside flows (entries_to k charges) c out', ap {B = ℕ} (λ b. y * cond b f 0) e)
    ]

pub record PaidAtSoFar (t : LoadTable) (charges : List Charge) (place : ℕ) (old new : List ℕ) (done : ℕ) : Type 0 where
  pub len : length new ≡ length old
  pub paid : (c u : ℕ) → c < done → slice_index old c ≡ min u most → slice_index new c ≡ min (u + (charge_at charges place).y * load_up_to t charges place c) most
  pub later : (c : ℕ) → done ≤ c → slice_index new c ≡ slice_index old c

pub paid_none : (t : LoadTable) (charges : List Charge) (place : ℕ) (old : List ℕ) → PaidAtSoFar t charges place old old 0
paid_none t charges place old = record {
  len = refl;
  paid = λ c u lt is. absurd (omega (arith, lt));
  later = λ c le. refl;
}

-- coflows without load on the port are passed by
pub paid_past : (t : LoadTable) (charges : List Charge) (place : ℕ) (old new : List ℕ) (done next : ℕ) → PaidAtSoFar t charges place old new done → done ≤ next →
    ((c : ℕ) → done ≤ c → c < next → load_at t c (port_at charges place) ≡ 0) → PaidAtSoFar t charges place old new next
paid_past t charges place old new done next so_far after none = record {
  len = so_far.len;
  paid = λ c u lt is. elim (cases_lt c done) [
    | inl before ↦ so_far.paid c u before is
    | inr behind ↦
        let free = nought_either (is_up_to charges place c) (load_at t c (port_at charges place)) (none c behind lt) in
        let same : u ≡ u + (charge_at charges place).y * load_up_to t charges place c = omega (arith, ap (λ n. (charge_at charges place).y * n) free) in
        so_far.later c behind ∙ is ∙ ap (λ n. min n most) same
  ];
  later = λ c le. so_far.later c (omega (arith, le, after));
}

-- sums and products that end at the greatest number
capped : (a b m : ℕ) → min (min a m + min b m) m ≡ min (a + b) m
capped a b m = omega arith

pub paid_more : (t : LoadTable) (charges : List Charge) (place : ℕ) (old new : List ℕ) (done load before v : ℕ) → PaidAtSoFar t charges place old new done → done < length old →
    load ≡ load_up_to t charges place done →
    before ≡ slice_index new done → v ≡ min (before + min ((charge_at charges place).y * load) most) most → PaidAtSoFar t charges place old (slice_set new done v) (done + 1)
paid_more t charges place old new done load before v so_far lt load_is before_is v_is =
    let y = (charge_at charges place).y in
    record {
      len = length-set new done v ∙ so_far.len;
      paid = λ c u lc is. elim (cases_eq c done) [
        | inl e ↦
            let old_is : before ≡ min u most = before_is ∙ so_far.later done (omega arith) ∙ ap (slice_index old) (sym e) ∙ is in
            ap (slice_index (slice_set new done v)) e ∙ get_or-set_same new done v 0 (omega (arith, lt, so_far.len)) ∙ v_is ∙ ap (λ n. min (n + min (y * load) most) most) old_is ∙
            capped u (y * load) most
            ∙ ap (λ n. min (u + y * n) most) load_is ∙ sym (ap (λ k. min (u + y * load_up_to t charges place k) most) e)
        | inr ne ↦ get_or-set_other new done c v 0 ne ∙ so_far.paid c u (omega (arith, lc, ne)) is
      ];
      later = λ c le. get_or-set_other new done c v 0 (λ e. omega (arith, le, e)) ∙ so_far.later c (omega (arith, le));
    }

-- ---- all places

abbrev pub IsPaidTo : LoadTable → List Charge → ℕ → List ℕ → Type 0
IsPaidTo t charges k paid = (flows : List Flow) (c : ℕ) → HasLoadsOf flows t (all_entries charges) → c < t.coflows →
    slice_index paid c ≡ min (used flows (entries_to k charges) c) most

pub place_paid : (t : LoadTable) (charges : List Charge) (k : ℕ) (old new : List ℕ) → IsCertificateOf t (all_entries charges) → IsPaidTo t charges k old → k < length charges →
    ((c u : ℕ) → c < t.coflows → slice_index old c ≡ min u most → slice_index new c ≡ min (u + (charge_at charges k).y * load_up_to t charges k c) most) →
    IsPaidTo t charges (k + 1) new
place_paid t charges k old new certificate so_far lt pays = λ flows c has lc.
    pays c (used flows (entries_to k charges) c) lc (so_far flows c has lc) ∙ sym (ap (λ n. min n most) (used_more flows t charges k c certificate has lt))

-- ---- the least coflow that pays more than its budget

-- a coflow that is at no place pays nothing
pub placed_or_free : (flows : List Flow) (charges : List Charge) (c : ℕ) → Contains (front (all_entries charges)) c ⊎ (used flows (all_entries charges) c ≡ 0)
placed_or_free flows charges c = elim (cases_Bool (list_any (λ x. x == c) (front (all_entries charges)))) [
  | inl e ↦ inl (any_has (front (all_entries charges)) c e)
  | inr e ↦ inr (used_outside flows (all_entries charges) c
      (λ has. both_ways (list_any (λ x. x == c) (front (all_entries charges))) e (any_in (front (all_entries charges)) c has)))
]

-- what is paid, for all flows that fit
abbrev pub IsPaid : LoadTable → List Charge → List ℕ → Type 0
IsPaid t charges paid = (flows : List Flow) (c : ℕ) → HasLoadsOf flows t (all_entries charges) → c < t.coflows → slice_index paid c ≡ min (used flows (all_entries charges) c) most

-- the first coflows pay no more than their budgets
abbrev pub StayTo : List ℕ → List ℕ → ℕ → Type 0
StayTo paid weights k = (c : ℕ) → c < k → (slice_index paid c ≤ slice_index weights c * 2 ^ 40) × (slice_index weights c * 2 ^ 40 < most)

pub stay_more : (paid weights : List ℕ) (k p w : ℕ) → StayTo paid weights k → p ≡ slice_index paid k → w ≡ slice_index weights k → p ≤ w * 2 ^ 40 → w < 2 ^ 64 →
    StayTo paid weights (k + 1)
stay_more paid weights k p w so_far is is' le small = λ c lt. elim (cases_eq c k) [
  | inl e ↦ (omega (arith, is, is', le, ap (slice_index paid) e, ap (slice_index weights) e), omega (arith, is', small, ap (slice_index weights) e))
  | inr ne ↦ so_far c (omega (arith, lt, ne))
]

stays : (t : LoadTable) (weights : List ℕ) (charges : List Charge) (paid : List ℕ) (k c : ℕ) → IsCertificateOf t (all_entries charges) → IsPaid t charges paid →
    StayTo paid weights k → c < k →
    (flows : List Flow) (weight : ℕ → ℕ) → HasLoadsOf flows t (all_entries charges) → HasWeightsOf weight weights (all_entries charges) →
    used flows (all_entries charges) c ≤ budget weight c
stays t weights charges paid k c certificate is so_far lt flows weight has hasw = elim (placed_or_free flows charges c) [
  | inl placed ↦
      let (within, small) = so_far c lt in
      let owed = is flows c has (named_in t (all_entries charges) certificate c placed) in
      omega (arith, within, small, owed, ap (λ n. n * scale) (hasw c placed))
  | inr none ↦ omega (arith, none)
]

pub none_infeasible : (t : LoadTable) (weights : List ℕ) (charges : List Charge) (paid : List ℕ) (k : ℕ) → IsCertificateOf t (all_entries charges) → IsPaid t charges paid →
    StayTo paid weights k → t.coflows ≤ k →
    (flows : List Flow) (weight : ℕ → ℕ) → HasLoadsOf flows t (all_entries charges) → HasWeightsOf weight weights (all_entries charges) →
    IsFeasible flows weight (all_entries charges)
none_infeasible t weights charges paid k certificate is so_far le flows weight has hasw = λ c. elim (placed_or_free flows charges c) [
  | inl placed ↦ stays t weights charges paid k c certificate is so_far (omega (arith, le, named_in t (all_entries charges) certificate c placed)) flows weight has hasw
  | inr none ↦ omega (arith, none)
]

pub least_infeasible : (t : LoadTable) (weights : List ℕ) (charges : List Charge) (paid : List ℕ) (c p w : ℕ) → IsCertificateOf t (all_entries charges) → IsPaid t charges paid →
    StayTo paid weights c → c < t.coflows →
    p ≡ slice_index paid c → w ≡ slice_index weights c → w * 2 ^ 40 < p →
    (flows : List Flow) (weight : ℕ → ℕ) → HasLoadsOf flows t (all_entries charges) → HasWeightsOf weight weights (all_entries charges) →
    IsLeastInfeasible flows weight (all_entries charges) c
least_infeasible t weights charges paid c p w certificate is so_far lc p_is w_is more flows weight has hasw =
    let owed = is flows c has lc in
    record {
      above = elim (placed_or_free flows charges c) [
        | inl placed ↦ omega (arith, p_is, w_is, more, owed, ap (λ n. n * scale) (hasw c placed))
        | inr none ↦ absurd (omega (arith, p_is, more, owed, none))
      ];
      least = λ other lt. stays t weights charges paid c other certificate is so_far lt flows weight has hasw;
    }

-- ---- what a coflow keeps of its budget

pub stays_within : (t : LoadTable) (weights : List ℕ) (charges : List Charge) (paid : List ℕ) (k w : ℕ) → IsCertificateOf t (all_entries charges) → IsPaid t charges paid →
    k < length charges → w ≡ slice_index weights (coflow_at charges k) →
    (flows : List Flow) (weight : ℕ → ℕ) → HasLoadsOf flows t (all_entries charges) → HasWeightsOf weight weights (all_entries charges) →
    IsFeasible flows weight (all_entries charges) → slice_index paid (coflow_at charges k) ≤ w * 2 ^ 40
stays_within t weights charges paid k w certificate is lt w_is flows weight has hasw feasible =
    let c = coflow_at charges k in
    let placed = placed_in charges k lt in
    omega (arith, is flows c has (named_in t (all_entries charges) certificate c placed), feasible c, w_is, ap (λ n. n * scale) (hasw c placed))

pub rest_kept : (t : LoadTable) (weights : List ℕ) (charges : List Charge) (paid : List ℕ) (k w p : ℕ) → IsCertificateOf t (all_entries charges) → IsPaid t charges paid →
    k < length charges → w ≡ slice_index weights (coflow_at charges k) →
    p ≡ slice_index paid (coflow_at charges k) → w < 2 ^ 64 → p ≤ w * 2 ^ 40 →
    (flows : List Flow) (weight : ℕ → ℕ) → HasLoadsOf flows t (all_entries charges) → HasWeightsOf weight weights (all_entries charges) →
    used flows (all_entries charges) (coflow_at charges k) + (w * 2 ^ 40 - p) ≡ budget weight (coflow_at charges k)
rest_kept t weights charges paid k w p certificate is lt w_is p_is small le flows weight has hasw =
    let c = coflow_at charges k in
    let placed = placed_in charges k lt in
    omega (arith, is flows c has (named_in t (all_entries charges) certificate c placed), w_is, p_is, small, le, ap (λ n. n * scale) (hasw c placed))

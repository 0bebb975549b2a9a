-- The runs of a schedule that serves a line, and how many slots it has.
use Rattle.std.proofs.Common.{◌≡◌, ◌≢◌, ℕ, ◌+◌, ◌*◌, ◌≤◌, ◌<◌, inl, inr, List, [], ◌∷◌, length, replicate, get_or, take, Contains, sym, ap, subst, ◌∙◌, suc, arith}
use Rattle.std.specs.Prelude.{All, sum_by}
use Rattle.std.specs.List.{range_with_len, slice_index_or}
use Rattle.std.proofs.lemmas.List.{get_or-map, get_or_default, length-map}
use Rattle.std.proofs.lemmas.List.Elements.{All-contains}
use Rattle.std.proofs.lemmas.List.Folds.{sum_by-replicate}
use Rattle.std.proofs.lemmas.List.Sums.{sum_by-append, sum_by-cons}
use Rattle.std.proofs.Math.Nat.{mul-le-mul_right}
use Rattle.coflow_units.specs.declared.fabric.Flow.{Flow}
use Rattle.coflow_units.specs.declared.plan.Run.{Run}
use Rattle.coflow_units.specs.Flows.{units_of}
use Rattle.coflow_units.specs.Patient.{IsServedOrWaits}
use Rattle.coflow_units.specs.Schedule.{IsClear, IsRuns, IsValid, times}
use Rattle.coflow_units.specs.Served.{IsServed}
use Rattle.coflow_units.proofs.Lists.{by_number, number_below}
use Rattle.coflow_units.proofs.ServedLaws.{served_patient, served_valid}
use Rattle.coflow_units.proofs.Sums.{sum_ones, sum_same}
use Rattle.schedule_model.specs.RunList.{pairs_of, slots_in}
use Rattle.schedule_model.proofs.RunSlots.{after_first, all_here, slots_at}
use Rattle.schedule_model.proofs.SlotLoads.{carried_by_times}

-- ---- the runs

abbrev pair_of : Run → ℕ × List ℕ
pair_of r = (r.length, r.flows)

pair_at : (runs : List Run) (k : ℕ) (d : Run) → k < length runs → get_or (pairs_of runs) k (pair_of d) ≡ pair_of (get_or runs k d)
pair_at runs k d lt = get_or-map pair_of runs k d (pair_of d) lt

pub run_lengths : (slots : List (List ℕ)) (runs : List Run) → IsRuns slots (pairs_of runs) → All (λ (r : Run). 1 ≤ r.length) runs
run_lengths slots runs is k d lt = subst (λ (p : ℕ × List ℕ). 1 ≤ p.0) (pair_at runs k d lt) (is.lengths k (pair_of d) (omega (arith, lt, length-map runs pair_of)))

pub runs_differ : (slots : List (List ℕ)) (runs : List Run) → IsRuns slots (pairs_of runs) → (k : ℕ) (d : Run) → k + 1 < length runs →
    (slice_index_or runs k d).flows ≢ (slice_index_or runs (k + 1) d).flows
runs_differ slots runs is k d lt = λ e.
    is.maximal k (pair_of d) (omega (arith, lt, length-map runs pair_of))
    (ap (λ (p : ℕ × List ℕ). p.1) (pair_at runs k d (omega arith)) ∙ e ∙ sym (ap (λ (p : ℕ × List ℕ). p.1) (pair_at runs (k + 1) d lt)))

-- what holds of each slot holds of the flows of each run
pub each_run : (P : List ℕ → Type 0) (slots : List (List ℕ)) (runs : List Run) → IsRuns slots (pairs_of runs) → All P slots → All (λ (r : Run). P r.flows) runs
each_run P slots runs is all k d lt =
    all_here P (slots_in (take k runs)) (after_first runs k d) (get_or runs k d).flows
    (subst (All P) (sym is.same ∙ slots_at runs k d lt (run_lengths slots runs is k d lt)) all)

-- ---- the slots

-- where each element counts for one or more, there are no more elements than they count for
few_elements : {X : Type 0} (w : X → ℕ) (xs : List X) → All (λ x. 1 ≤ w x) xs → length xs ≤ sum_by w xs
few_elements w [] some = omega arith
few_elements w (x ∷ xs) some = omega (arith, sum_by-cons w x xs, some 0 x (omega arith), few_elements w xs (λ k d lt. some (suc k) d (omega (arith, lt))))

-- the flows of the slots of a valid schedule are as many as the units
slots_have_units : (flows : List Flow) (slots : List (List ℕ)) → IsValid flows slots → sum_by length slots ≡ sum_by (λ (x : Flow). x.units) flows
slots_have_units flows slots valid =
    let numbers = range_with_len 0 (length flows) in
    let ones = sum_same length (λ h. sum_by (λ (f : ℕ). 1) h) slots (λ h has. sym (sum_ones h)) in
    let through = carried_by_times flows (λ f. 1) slots (λ h has. All-contains (IsClear flows) slots h valid.clear has) in
    let served = sum_same (λ f. 1 * times slots f) (λ f. units_of flows f) numbers (λ f has. omega (arith, valid.served f (omega (arith, number_below 0 (length flows) f has)))) in
    ones ∙ through ∙ served ∙ sym (by_number (λ (x : Flow). x.units) record { coflow = 0; ingress = 0; egress = 0; units = 0 } flows)

has_some : (slot : List ℕ) (f : ℕ) → Contains slot f → 1 ≤ length slot
has_some slot f (k, lt, at) = omega (arith, lt)

holds_some : (flows : List Flow) (line slot : List ℕ) (f : ℕ) → IsServedOrWaits flows line slot f → 1 ≤ length slot
holds_some flows line slot f (inl has) = has_some slot f has
holds_some flows line slot f (inr waits) = has_some slot waits.0 waits.1

-- each slot serves a flow
slots_serve : (flows : List Flow) (line : List ℕ) (slots : List (List ℕ)) → IsServed flows line slots → All (λ (slot : List ℕ). 1 ≤ length slot) slots
slots_serve flows line slots served k d lt =
    let (f, within, owes) = served.so_far.owed k lt in
    subst (λ (slot : List ℕ). 1 ≤ length slot) (get_or_default slots k [] d lt)
    (holds_some flows line (slice_index_or slots k []) f (served_patient flows line slots served k f lt within (omega (arith, owes))))

-- so there are no more slots than units
pub few_slots : (flows : List Flow) (line : List ℕ) (slots : List (List ℕ)) → IsServed flows line slots → length slots ≤ sum_by (λ (x : Flow). x.units) flows
few_slots flows line slots served =
    omega (arith, few_elements length slots (slots_serve flows line slots served), slots_have_units flows slots (served_valid flows line slots served))

-- ---- the flows of the runs

-- a run has no more flows than its slots together
runs_have : (runs : List Run) → All (λ (r : Run). 1 ≤ r.length) runs → sum_by (λ (r : Run). length r.flows) runs ≤ sum_by length (slots_in runs)
runs_have [] some = omega arith
runs_have (r ∷ rs) some =
    let once : 1 * length r.flows ≤ r.length * length r.flows = mul-le-mul_right (length r.flows) (some 0 r (omega arith)) in
    omega (
      arith,
      once,
      sum_by-cons (λ (x : Run). length x.flows) r rs,
      sum_by-append length (replicate r.length r.flows) (slots_in rs),
      sum_by-replicate length r.length r.flows,
      runs_have rs (λ k d lt. some (suc k) d (omega (arith, lt))),
    )

-- each run has a flow
pub few_runs : (flows : List Flow) (line : List ℕ) (slots : List (List ℕ)) (runs : List Run) → IsServed flows line slots → IsRuns slots (pairs_of runs) →
    length runs ≤ sum_by (λ (r : Run). length r.flows) runs
few_runs flows line slots runs served is =
    few_elements (λ (r : Run). length r.flows) runs (each_run (λ (slot : List ℕ). 1 ≤ length slot) slots runs is (slots_serve flows line slots served))

-- and the runs have no more flows together than there are units
pub few_run_flows : (flows : List Flow) (line : List ℕ) (slots : List (List ℕ)) (runs : List Run) → IsServed flows line slots → IsRuns slots (pairs_of runs) →
    sum_by (λ (r : Run). length r.flows) runs ≤ sum_by (λ (x : Flow). x.units) flows
few_run_flows flows line slots runs served is =
    omega (
      arith,
      runs_have runs (run_lengths slots runs is),
      ap (λ (l : List (List ℕ)). sum_by length l) is.same,
      slots_have_units flows slots (served_valid flows line slots served),
    )

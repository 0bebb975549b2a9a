-- The runs of a schedule that fits have their numbers in range.
use Rattle.std.proofs.Common.{◌≡◌, ◌≢◌, ℕ, ◌+◌, ◌≤◌, zero, suc, List, [], ◌∷◌, ◌++◌, length, map, refl, sym, ap, ◌∙◌, subst, arith}
use Rattle.std.specs.Prelude.{All, replicate, sum_by}
use Rattle.std.proofs.lemmas.List.{get_or-map, length-append, length-map, length-replicate}
use Rattle.std.proofs.lemmas.List.Elements.{All-cons, All-head, All-nil, All-tail}
use Rattle.std.proofs.lemmas.List.Sums.{sum_by-cons}
use Rattle.coflow_units.specs.declared.fabric.Flow.{Flow}
use Rattle.coflow_units.specs.declared.limits.TheConstants.{MAX_FLOWS, MAX_SLOT}
use Rattle.coflow_units.specs.declared.plan.Run.{Run}
use Rattle.coflow_units.specs.Schedule.{IsClear, IsRuns, slots_of}
use Rattle.report_text.specs.Readers.{IsRun}
use Rattle.live_text.specs.Live.{ForNeighbours}
use Rattle.live_model.specs.Printed.{run_of}
use Rattle.live_audits.proofs.Ended.{all_behind}

abbrev HasSlots : Run → Type 0
HasSlots r = 1 ≤ r.length

have_slots : (runs : List Run) → All (λ (r : ℕ × List ℕ). 1 ≤ r.0) (map run_of runs) → All HasSlots runs
have_slots [] h = All-nil HasSlots
have_slots (r ∷ rs) h =
    All-cons HasSlots r rs (All-head (λ (r : ℕ × List ℕ). 1 ≤ r.0) (run_of r) (map run_of rs) h)
    (have_slots rs (All-tail (λ (r : ℕ × List ℕ). 1 ≤ r.0) (run_of r) (map run_of rs) h))

first_slot : (P : List ℕ → Type 0) (n : ℕ) (slot : List ℕ) (rest : List (List ℕ)) → 1 ≤ n → All P (replicate n slot ++ rest) → P slot
first_slot P zero slot rest some h = absurd (omega (arith, some))
first_slot P (suc n) slot rest some h = All-head P slot (replicate n slot ++ rest) h

clear_runs : (flows : List Flow) (runs : List Run) → All HasSlots runs → All (IsClear flows) (slots_of (map run_of runs)) → All (λ (r : Run). IsClear flows r.flows) runs
clear_runs flows [] some h = All-nil (λ (r : Run). IsClear flows r.flows)
clear_runs flows (r ∷ rs) some h =
    All-cons (λ (r : Run). IsClear flows r.flows) r rs
    (first_slot (IsClear flows) r.length r.flows (slots_of (map run_of rs)) (All-head HasSlots r rs some) h)
    (clear_runs flows rs (All-tail HasSlots r rs some) (all_behind (IsClear flows) (replicate r.length r.flows) (slots_of (map run_of rs)) h))

together : (runs : List Run) → length (slots_of (map run_of runs)) ≡ sum_by (λ (r : Run). r.length) runs
together [] = refl
together (r ∷ rs) =
    length-append (replicate r.length r.flows) (slots_of (map run_of rs)) ∙ ap (λ n. n + length (slots_of (map run_of rs))) (length-replicate r.length r.flows)
    ∙ ap (λ n. r.length + n) (together rs) ∙ sym (sum_by-cons (λ (r : Run). r.length) r rs)

each_short : (most : ℕ) (runs : List Run) → sum_by (λ (r : Run). r.length) runs ≤ most → All (λ (r : Run). r.length ≤ most) runs
each_short most [] le = All-nil (λ (r : Run). r.length ≤ most)
each_short most (r ∷ rs) le =
    let sum = sum_by-cons (λ (r : Run). r.length) r rs in
    All-cons (λ (r : Run). r.length ≤ most) r rs (omega (arith, le, sum)) (each_short most rs (omega (arith, le, sum)))

module _ (flows : List Flow) (slots : List (List ℕ)) (runs : List Run) (is : IsRuns slots (map run_of runs)) (short : length slots ≤ MAX_SLOT) where
  pub few_slots : sum_by (λ (r : Run). r.length) runs ≤ MAX_SLOT
  few_slots = omega (arith, short, together runs, ap (λ l. length l) is.same)

  pub runs_fit : All (IsClear flows) slots → length flows ≤ MAX_FLOWS → All IsRun runs
  runs_fit clear few =
      let some = have_slots runs is.lengths in
      let short = each_short MAX_SLOT runs few_slots in
      let each = clear_runs flows runs some (subst (All (IsClear flows)) (sym is.same) clear) in
      λ k d lt. (some k d lt, short k d lt, ((each k d lt).ascending, λ i e less. omega (arith, few, (each k d lt).flow i e less)))

  pub runs_differ : ForNeighbours (λ (a b : Run). a.flows ≢ b.flows) runs
  runs_differ k d lt same =
      is.maximal k (run_of d) (omega (arith, lt, length-map runs run_of))
      (ap (λ (r : ℕ × List ℕ). r.1) (get_or-map run_of runs k d (run_of d) (omega (arith, lt))) ∙ same
      ∙ sym (ap (λ (r : ℕ × List ℕ). r.1) (get_or-map run_of runs (k + 1) d (run_of d) lt)))

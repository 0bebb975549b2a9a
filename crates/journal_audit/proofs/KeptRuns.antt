-- Runs that a schedule keeps.
use Rattle.std.proofs.Common.{◌≡◌, ℕ, ◌+◌, ◌≤◌, ◌<◌, List, get_or, length, take, sym, ap, ◌∙◌, subst, arith}
use Rattle.std.specs.Prelude.{All}
use Rattle.std.specs.List.Sorted.{IsStrictlyIncreasing}
use Rattle.std.proofs.lemmas.List.{get_or-map, length-map}
use Rattle.coflow_units.specs.declared.plan.Run.{Run}
use Rattle.coflow_units.specs.Schedule.{IsRuns}
use Rattle.cert_check.proofs.SlotSteps.{slots_count}
use Rattle.live_text.specs.declared.value.Live.{Live}
use Rattle.live_text.specs.Live.{IsLive}
use Rattle.schedule_model.specs.RunList.{IsKept, pairs_of, slots_in}
use Rattle.schedule_model.proofs.RunSlots.{after_first, all_here, slots_at}

-- the runs of a printed journal are those of a schedule
pub live_kept : (l : Live) → IsLive l → IsKept l.runs
live_kept l h = record {
  some = λ k d lt. (h.run k d lt).0;
  ascending = λ k d lt. (h.run k d lt).2.0;
  maximal = h.maximal;
  short = omega (arith, slots_count l.runs, h.few_slots);
}

-- and so are those that a schedule tells
module _ (slots : List (List ℕ)) (runs : List Run) (h : IsRuns slots (pairs_of runs)) (ascending : All IsStrictlyIncreasing slots) (short : length slots ≤ 2199023255551) where
  count_pairs : length (pairs_of runs) ≡ length runs
  count_pairs = length-map {B = ℕ × List ℕ} runs (λ (r : Run). (r.length, r.flows))

  pair_at : (k : ℕ) (d : Run) → k < length runs → get_or (pairs_of runs) k (d.length, d.flows) ≡ ((get_or runs k d).length, (get_or runs k d).flows)
  pair_at k d lt = get_or-map (λ (r : Run). (r.length, r.flows)) runs k d (d.length, d.flows) lt

  some : (k : ℕ) (d : Run) → k < length runs → 1 ≤ (get_or runs k d).length
  some k d lt = subst (λ (p : ℕ × List ℕ). 1 ≤ p.0) (pair_at k d lt) (h.lengths k (d.length, d.flows) (omega (arith, lt, count_pairs)))

  pub told_kept : IsKept runs
  told_kept = record {
    some = some;
    ascending = λ k d lt.
        all_here IsStrictlyIncreasing (slots_in (take k runs)) (after_first runs k d) (get_or runs k d).flows
        (subst (All IsStrictlyIncreasing) (sym h.same ∙ slots_at runs k d lt (some k d lt)) ascending);
    maximal = λ k d lt e. h.maximal k (d.length, d.flows) (omega (arith, lt, count_pairs)) (
        ap (λ (p : ℕ × List ℕ). p.1) (pair_at k d (omega (arith, lt))) ∙ e ∙ sym (ap (λ (p : ℕ × List ℕ). p.1) (pair_at (k + 1) d lt))
        );
    short = omega (arith, ap length h.same, short);
  }

-- What is recorded at the end of a replay is its record.
use Rattle.std.proofs.Common.{◌≡◌, ◌≢◌, ℕ, ◌+◌, ◌<◌, ◌≤◌, List, [], ◌∷◌, Some, get_or, length, map, reverse, take, refl, sym, ap, subst, ◌∙◌, arith}
use Rattle.std.specs.Prelude.{All, slice_index, sum_by}
use Rattle.std.specs.List.Sorted.{IsStrictlyIncreasing}
use Rattle.std.proofs.lemmas.List.{get_or-map, length-map, reverse-reverse}
use Rattle.std.proofs.lemmas.List.Sums.{get_or-le-sum_by}
use Rattle.cert_check.proofs.SlotSteps.{slots_count}
use Rattle.coflow_units.specs.declared.plan.Run.{Run}
use Rattle.coflow_units.specs.Schedule.{IsRuns}
use Rattle.flow_table.specs.Table.{instance_of}
use Rattle.online_runs.specs.Input.{online_opening}
use Rattle.online_runs.specs.Value.{done_lines, release_line}
use Rattle.online_text.specs.declared.value.Epoch.{Epoch}
use Rattle.online_text.specs.declared.value.Online.{Online}
use Rattle.online_text.specs.Online.{IsOnline}
use Rattle.rankers.specs.Meaning.{Meaning}
use Rattle.release_bound.specs.declared.place.ReleasePlace.{ReleasePlace}
use Rattle.release_bound.specs.Best.{arrivals_cost, IsBestReleased}
use Rattle.release_bound.specs.Release.{IsReleased}
use Rattle.report_text.specs.Readers.{IsRun}
use Rattle.schedule_model.specs.RunList.{NamesFlows, pairs_of, slots_in}
use Rattle.schedule_model.proofs.RunSlots.{after_first, all_here, slots_at}
use Rattle.replays.specs.declared.kept.Kept.{Kept}
use Rattle.replays.specs.declared.recording.Recording.{Recording}
use Rattle.replays.specs.declared.rows.Replayed.{Replayed}
use Rattle.replays.specs.declared.writing.ReplayReport.{ReplayReport}
use Rattle.replays.specs.Kept.{Ends}
use Rattle.replays.specs.Moments.{Input}
use Rattle.replays.specs.Recorded.{IsRecord}
use Rattle.replays.specs.Recording.{IsRecordingOf, TellsRecording}
use Rattle.replays.specs.Replayed.{cost_of_slots, IsReplay, IsReplayed}
use Rattle.replays.specs.Reported.{IsReported}
use Rattle.replays.proofs.ReleasedReplays.{replay_is_released}
use Rattle.replays.proofs.RisingTimes.{times_rise}

-- ---- runs of a schedule

pair_at : (runs : List Run) (k : ℕ) (d : Run) → k < length runs → get_or (pairs_of runs) k (d.length, d.flows) ≡ ((get_or runs k d).length, (get_or runs k d).flows)
pair_at runs k d lt = get_or-map (λ (r : Run). (r.length, r.flows)) runs k d (d.length, d.flows) lt

count_pairs : (runs : List Run) → length (pairs_of runs) ≡ length runs
count_pairs runs = length-map {B = ℕ × List ℕ} runs (λ (r : Run). (r.length, r.flows))

run_some : (slots : List (List ℕ)) (runs : List Run) → IsRuns slots (pairs_of runs) → (k : ℕ) (d : Run) → k < length runs → 1 ≤ (get_or runs k d).length
run_some slots runs is k d lt = subst (λ (p : ℕ × List ℕ). 1 ≤ p.0) (pair_at runs k d lt) (is.lengths k (d.length, d.flows) (omega (arith, lt, count_pairs runs)))

each_run : (P : List ℕ → Type 0) (slots : List (List ℕ)) (runs : List Run) → IsRuns slots (pairs_of runs) → All P slots → All (λ (r : Run). P r.flows) runs
each_run P slots runs is all k d lt =
    all_here P (slots_in (take k runs)) (after_first runs k d) (get_or runs k d).flows
    (subst (All P) (sym is.same ∙ slots_at runs k d lt (run_some slots runs is k d lt)) all)

runs_differ : (slots : List (List ℕ)) (runs : List Run) → IsRuns slots (pairs_of runs) → (k : ℕ) (d : Run) → k + 1 < length runs →
    (get_or runs k d).flows ≢ (get_or runs (k + 1) d).flows
runs_differ slots runs is k d lt = λ e.
    is.maximal k (d.length, d.flows) (omega (arith, lt, count_pairs runs)) (
    ap (λ (p : ℕ × List ℕ). p.1) (pair_at runs k d (omega (arith, lt))) ∙ e ∙ sym (ap (λ (p : ℕ × List ℕ). p.1) (pair_at runs (k + 1) d lt))
    )

-- ---- the record

module _ (x : Input) (ranker : Meaning) (kept : Kept) (made : Recording) (ends : Ends x ranker kept) (is : kept.recording ≡ Some made) where
  told : IsRecordingOf x ends.moment made
  told = subst (TellsRecording x ends.moment) is ends.at.tells.recording

  replay : IsReplay x ranker ends.moment.slots
  replay = record { moment = ends.moment; reached = ends.reached; ends = ends.ends; slots_are = refl }

  released : IsReleased x.table.flows (slice_index x.arrivals) ends.moment.slots
  released = replay_is_released x ranker ends.moment.slots ends.at.input replay

  pub names : NamesFlows (length x.table.flows) made.schedule
  names = subst (NamesFlows (length x.table.flows)) (sym told.schedule_is) (λ k d lt. (released.valid.clear k d lt).flow)

  module _ (o : Online) (epochs : o.epochs ≡ made.epochs.items) (runs : IsRuns made.schedule (pairs_of o.runs)) where
    own : IsRuns ends.moment.slots (pairs_of o.runs)
    own = subst (λ s. IsRuns s (pairs_of o.runs)) told.schedule_is runs

    few : sum_by (λ (run : Run). run.length) o.runs ≤ 2199023255551
    few = omega (arith, slots_count o.runs, ap (λ (s : List (List ℕ)). length s) own.same, ends.at.holds.short)

    each : (k : ℕ) (d : Run) → k < length o.runs → IsRun (get_or o.runs k d)
    each k d lt = (
      run_some ends.moment.slots o.runs own k d lt,
      omega (arith, get_or-le-sum_by (λ (run : Run). run.length) o.runs k d lt, few),
      (
        each_run IsStrictlyIncreasing ends.moment.slots o.runs own (λ j e in'. (released.valid.clear j e in').ascending) k d lt,
        λ j e in'.
            let low = each_run (All (λ f. f < length x.table.flows)) ends.moment.slots o.runs own (λ i s here. (released.valid.clear i s here).flow) k d lt j e in' in
            omega (arith, low, ends.at.input.table.few_flows),
      ),
    )

    pub has_form : IsOnline o
    has_form = record {
      rising = subst (λ (es : List Epoch). IsStrictlyIncreasing (map (λ (e : Epoch). e.time) es)) (sym (epochs ∙ told.epochs_are)) (times_rise x ranker ends.moment ends.reached);
      run = each;
      few_slots = few;
      maximal = runs_differ ends.moment.slots o.runs own;
    }

    pub is_record : (places : List ReleasePlace) (total : ℕ) → IsBestReleased (instance_of x.table x.weights) (slice_index x.arrivals) (reverse places) total →
        o.done ≡ done_lines (online_opening x.table x.weights) made.schedule → o.cost ≡ cost_of_slots x made.schedule → o.release ≡ map (release_line x.table.ids) places →
        o.total ≡ total → IsRecord x ranker o
    is_record places total best done cost release total_is = record {
      moment = ends.moment;
      reached = ends.reached;
      ends = ends.ends;
      epochs_are = epochs ∙ told.epochs_are;
      done_are = done ∙ ap (done_lines (online_opening x.table x.weights)) told.schedule_is;
      cost_is = cost ∙ ap (cost_of_slots x) told.schedule_is;
      places = reverse places;
      best = subst (IsBestReleased (instance_of x.table x.weights) (slice_index x.arrivals) (reverse places)) (sym total_is) best;
      release_is = release ∙ ap (map (release_line x.table.ids)) (sym (reverse-reverse places));
      runs_are = own;
    }

-- ---- the report of one ranker

pub reported_alone : (x : Input) (ranker : Meaning) (r : ReplayReport) (places : List ReleasePlace) (total : ℕ) (name : List ℕ) (result : Replayed) →
    IsBestReleased (instance_of x.table x.weights) (slice_index x.arrivals) places total → r.total ≡ total →
    r.arrivals ≡ arrivals_cost (instance_of x.table x.weights) (slice_index x.arrivals) →
    r.rows ≡ record { index = 1; name = name; result = result } ∷ [] → name ≡ ranker.name → IsReplayed x ranker result → IsReported x (ranker ∷ []) r
reported_alone x ranker r places total name result best total_is arrivals rows named replayed = record {
  places = places;
  total = subst (IsBestReleased (instance_of x.table x.weights) (slice_index x.arrivals) places) (sym total_is) best;
  arrivals = arrivals;
  rows = (result, [], replayed, rows ∙ ap (λ (n : List ℕ). record { index = 1; name = n; result = result } ∷ []) named, refl);
}

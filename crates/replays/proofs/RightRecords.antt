-- The record of a replay is right, as the checker of online runs defines it.
use Rattle.std.proofs.Common.{◌≡◌, ◌∙◌, ℕ, ◌<◌, ◌≤◌, List, length, refl, sym, ap, subst, arith}
use Rattle.std.specs.Prelude.{slice_index}
use Rattle.coflow_units.specs.Completion.{completion}
use Rattle.coflow_units.specs.Flows.{Instance, IsDistinct}
use Rattle.flow_table.specs.Table.{instance_of}
use Rattle.online_check.specs.Done.{ids_done, slots_done}
use Rattle.online_check.specs.Released.{released_in}
use Rattle.online_check.specs.Sound.{IsSoundOnline}
use Rattle.online_runs.specs.Input.{online_opening}
use Rattle.online_runs.proofs.Right.{all_reversed, ids_again, places_within, released_again, slots_again}
use Rattle.online_text.specs.declared.value.Online.{Online}
use Rattle.rankers.specs.Meaning.{Meaning}
use Rattle.release_bound.specs.declared.place.ReleasePlace.{ReleasePlace}
use Rattle.release_bound.specs.declared.threshold.Threshold.{Threshold}
use Rattle.release_bound.specs.Best.{IsBestReleased}
use Rattle.release_bound.specs.Release.{IsReleased, IsReleasedCertificate, IsReleasedFeasible, released_total}
use Rattle.release_bound.specs.ReleaseOrder.{IsReleasedBy}
use Rattle.schedule_model.specs.RunList.{slots_in}
use Rattle.replays.specs.Moments.{Input}
use Rattle.replays.specs.Recorded.{IsRecord}
use Rattle.replays.specs.Replayed.{cost_of_slots, IsInput, IsReplay}
use Rattle.replays.proofs.ReleasedReplays.{replay_is_released}

-- the schedule of the record is that of the replay
pub replay_of : (x : Input) (ranker : Meaning) (o : Online) (h : IsRecord x ranker o) → IsReplay x ranker h.moment.slots
replay_of x ranker o h = record { moment = h.moment; reached = h.reached; ends = h.ends; slots_are = refl }

module _ (x : Input) (ranker : Meaning) (o : Online) (input : IsInput x) (once : IsDistinct x.table.ids) (h : IsRecord x ranker o)
    (feasible : IsReleasedFeasible x.table.flows (slice_index x.weights) h.places) where
  runs_same : slots_in o.runs ≡ h.moment.slots
  runs_same = h.runs_are.same

  again : released_in x.table.ids o.release ≡ h.places
  again =
      ap (released_in x.table.ids) h.release_is ∙
      released_again x.table.ids h.places once
      (all_reversed (λ (r : ReleasePlace). r.coflow < length x.table.ids) h.places (places_within x.table x.weights h.places h.best.certificate.certificate))

  pub is_sound : IsSoundOnline (instance_of x.table x.weights) (slice_index x.arrivals) x.table.ids o
  is_sound = record {
    certificate = subst (IsReleasedCertificate (instance_of x.table x.weights)) (sym again) h.best.certificate.certificate;
    feasible = subst (IsReleasedFeasible x.table.flows (slice_index x.weights)) (sym again) feasible;
    total_is_low = omega (arith, h.best.total_is, ap (released_total x.table.flows (slice_index x.arrivals) x.table.ports) again);
    released = subst (IsReleased x.table.flows (slice_index x.arrivals)) (sym runs_same) (replay_is_released x ranker h.moment.slots input (replay_of x ranker o h));
    listed = ap ids_done h.done_are ∙ ids_again (online_opening x.table x.weights) h.moment.slots;
    ends = λ c lt.
        ap (λ l. slice_index (slots_done l) c) h.done_are ∙ slots_again (online_opening x.table x.weights) h.moment.slots c lt ∙
        sym (ap (λ l. completion x.table.flows l c) runs_same);
    cost_is = h.cost_is ∙ sym (ap (cost_of_slots x) runs_same);
  }

-- ---- the greatest total is one

module _ (one : (by : Threshold) (i : Instance) (arrival : ℕ → ℕ) (a b : List ReleasePlace) → IsReleasedBy by i arrival a → IsReleasedBy by i arrival b → a ≡ b)
    (i : Instance) (arrival : ℕ → ℕ) where
  best_within : (a b : List ReleasePlace) (s t : ℕ) → IsBestReleased i arrival a s → IsBestReleased i arrival b t → t ≤ s
  best_within a b s t is_a is_b =
      let (others, is, le, less) = is_a.best is_b.by in
      omega (arith, le, is_b.total_is, ap (released_total i.flows arrival i.ports) (one is_b.by i arrival others b is is_b.certificate))

  pub best_one : (a b : List ReleasePlace) (s t : ℕ) → IsBestReleased i arrival a s → IsBestReleased i arrival b t → s ≡ t
  best_one a b s t is_a is_b = omega (arith, best_within a b s t is_a is_b, best_within b a t s is_b is_a)

-- What the text of an online run must say to be right, whoever made it. Of its publishings nothing is asked.
use Rattle.std.specs.Prelude.{◌≡◌, ℕ, ◌<◌, ◌≤◌, List, length, slice_index}
use Rattle.coflow_units.specs.Completion.{completion, cost}
use Rattle.coflow_units.specs.Flows.{Instance}
use Rattle.online_text.specs.declared.value.Online.{Online}
use Rattle.release_bound.specs.Release.{IsReleased, IsReleasedCertificate, IsReleasedFeasible, released_total}
use Rattle.schedule_model.specs.RunList.{slots_in}
use Rattle.online_check.specs.Done.{ids_done, slots_done}
use Rattle.online_check.specs.Released.{released_in}

-- The online run is right for the instance, whose coflows have these ids and these arrivals by number. Its release lines
-- are a feasible released certificate, and its total is at most that of the certificate. Its runs are a valid schedule
-- that serves nobody before its arrival. Its lines of completions are those of the coflows by number, and state the
-- completions; and it states the cost.
pub record IsSoundOnline (i : Instance) (arrival : ℕ → ℕ) (ids : List ℕ) (o : Online) : Type 0 where
  pub certificate : IsReleasedCertificate i (released_in ids o.release)
  pub feasible : IsReleasedFeasible i.flows i.weight (released_in ids o.release)
  pub total_is_low : o.total ≤ released_total i.flows arrival i.ports (released_in ids o.release)
  pub released : IsReleased i.flows arrival (slots_in o.runs)
  pub listed : ids_done o.done ≡ ids
  pub ends : (c : ℕ) → c < length ids → slice_index (slots_done o.done) c ≡ completion i.flows (slots_in o.runs) c
  pub cost_is : o.cost ≡ cost i.flows i.weight i.coflows (slots_in o.runs)

-- the total is at most the cost of every valid schedule that serves nobody before its arrival
abbrev pub BoundsReleasedSchedules : Instance → (ℕ → ℕ) → Online → Type 0
BoundsReleasedSchedules i arrival o = (slots : List (List ℕ)) → IsReleased i.flows arrival slots →
    o.total ≤ cost i.flows i.weight i.coflows slots

-- The greatest total of the released certificates, and what arrivals cost any schedule.
use Rattle.std.specs.Prelude.{◌≡◌, ℕ, ◌*◌, ◌<◌, ◌≤◌, ◌==◌, if◌then◌else◌, List, sum_by}
use Rattle.coflow_units.specs.Flows.{Instance}
use Rattle.release_bound.specs.declared.place.ReleasePlace.{ReleasePlace}
use Rattle.release_bound.specs.declared.threshold.Threshold.{Threshold}
use Rattle.release_bound.specs.Release.{bottleneck, released_total}
use Rattle.release_bound.specs.ReleaseOrder.{IsReleasedBy, quarters_of}

-- the places are the released certificate by some threshold, and the total is theirs; no other threshold has a greater
-- total, and no lesser threshold has as great a one
pub record IsBestReleased (i : Instance) (arrival : ℕ → ℕ) (places : List ReleasePlace) (total : ℕ) : Type 0 where
  pub by : Threshold
  pub certificate : IsReleasedBy by i arrival places
  pub total_is : total ≡ released_total i.flows arrival i.ports places
  pub best : (other : Threshold) → (others : List ReleasePlace) × IsReleasedBy other i arrival others ×
      (released_total i.flows arrival i.ports others ≤ total) ×
      (quarters_of other < quarters_of by → released_total i.flows arrival i.ports others < total)

-- the sum of weight times arrival of the coflows that have load: no schedule that serves nobody before its arrival costs
-- less
abbrev pub arrivals_cost : Instance → (ℕ → ℕ) → ℕ
arrivals_cost i arrival =
    sum_by (λ c. if bottleneck i.flows i.ports c == 0 then 0 else i.weight c * arrival c) i.coflows

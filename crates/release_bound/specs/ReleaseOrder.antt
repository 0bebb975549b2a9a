-- The released certificates that are made from the last place to the first, one for each threshold. Each takes the
-- port of the ordering certificate. Where the coflow that arrives last comes later than the threshold's part of the
-- load there could be served, that coflow takes the place and pays for its earliest end alone; otherwise the rule of
-- the ordering certificate places a coflow, and all pay for load. The rule on arrivals is this project's.
use Rattle.std.specs.Prelude.{◌≡◌, ℕ, ◌<◌, ◌≤◌, ◌-◌, ◌*◌, ◌⊎◌, List, [], ◌∷◌, Contains}
use Rattle.coflow_units.specs.declared.fabric.Flow.{Flow}
use Rattle.coflow_units.specs.Flows.{Instance}
use Rattle.coflow_units.specs.Load.{load, load_of_all}
use Rattle.coflow_units.specs.Certificate.{Entry, front}
use Rattle.coflow_units.specs.Ordering.{IsFirstGreatest, IsPlacedBusy, residual}
use Rattle.release_bound.specs.declared.place.ReleasePlace.{ReleasePlace}
use Rattle.release_bound.specs.declared.threshold.Threshold.{Threshold}
use Rattle.release_bound.specs.declared.threshold.Threshold.TheVariants.{Zero, Half, ThreeQuarters, One}
use Rattle.release_bound.specs.declared.threshold.Threshold.TheVariants.{OneAndHalf, Two}
use Rattle.release_bound.specs.Release.{IsReleasedCertificate, entries_of, entry_of}

-- of these coflows it arrives last, and among equals it has the greatest number
pub record IsLatest (arrival : ℕ → ℕ) (coflows : List ℕ) (coflow : ℕ) : Type 0 where
  pub member : Contains coflows coflow
  pub latest : (other : ℕ) → Contains coflows other →
      (arrival other < arrival coflow) ⊎ ((arrival other ≡ arrival coflow) × (other ≤ coflow))

-- there is no load, or so many quarters of it could be served before this arrival, or the quarters are none
abbrev pub IsLate : ℕ → ℕ → ℕ → Type 0
IsLate quarters load arrival = (load ≡ 0) ⊎ (quarters ≡ 0) ⊎ (quarters * load < 4 * arrival)

-- one step: the coflows are those not placed yet, the placed one among them, and `later` the places that are there
-- already; the placed coflow pays, for its earliest end, with all that is left of its budget
pub record IsPlacedReleased (quarters : ℕ) (flows : List Flow) (weight arrival : ℕ → ℕ) (ports : ℕ)
    (later : List Entry) (coflows : List ℕ) (r : ReleasePlace) : Type 0 where
  pub port : IsFirstGreatest flows ports coflows r.port
  pub latest : ℕ
  pub is_latest : IsLatest arrival coflows latest
  pub late_coflow : IsLate quarters (load_of_all flows coflows r.port) (arrival latest) → r.coflow ≡ latest
  pub late_y : IsLate quarters (load_of_all flows coflows r.port) (arrival latest) → r.y ≡ 0
  pub early : (IsLate quarters (load_of_all flows coflows r.port) (arrival latest) → ⊥) →
      IsPlacedBusy flows weight later coflows (entry_of r)
  pub z_is : r.z ≡ residual flows weight later r.coflow - r.y * load flows r.coflow r.port

-- each place is made by the step above, over its front and the places after it
abbrev pub IsReleasedOrdered : ℕ → List Flow → (ℕ → ℕ) → (ℕ → ℕ) → ℕ → List Entry → List ReleasePlace → Type 0
IsReleasedOrdered quarters flows weight arrival ports later [] = Unit {0}
IsReleasedOrdered quarters flows weight arrival ports later (r ∷ before) =
    IsPlacedReleased quarters flows weight arrival ports later (front (entries_of (r ∷ before))) r ×
    IsReleasedOrdered quarters flows weight arrival ports (entry_of r ∷ later) before

-- the quarters of a threshold
abbrev pub quarters_of : Threshold → ℕ
quarters_of Zero = 0
quarters_of Half = 2
quarters_of ThreeQuarters = 3
quarters_of One = 4
quarters_of OneAndHalf = 6
quarters_of Two = 8

-- the released certificate of the instance and the arrivals by a threshold
pub record IsReleasedBy (by : Threshold) (i : Instance) (arrival : ℕ → ℕ) (places : List ReleasePlace) : Type 0 where
  pub certificate : IsReleasedCertificate i places
  pub ordered : IsReleasedOrdered (quarters_of by) i.flows i.weight arrival i.ports [] places

-- the one whose total online runs print: a coflow is late that arrives after the whole load could be served
abbrev pub IsReleasedOrdering : Instance → (ℕ → ℕ) → List ReleasePlace → Type 0
IsReleasedOrdering i arrival places = IsReleasedBy One i arrival places

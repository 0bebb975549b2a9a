-- One step of the released certificate over a table: from the loads of the coflows that wait for a place, their
-- arrivals and their residuals.
use Rattle.std.specs.Prelude.{◌≡◌, ℕ, ◌-◌, ◌*◌, ◌/◌, ◌<◌, ◌≤◌, ◌⊎◌, Bool, true, List, slice_index}
use Rattle.port_load.specs.LoadTable.{LoadTable, is_present, load_at, total_at}
use Rattle.bssi_order.specs.Step.{IsGreatestPort, IsLeastRatio}
use Rattle.release_bound.specs.declared.place.ReleasePlace.{ReleasePlace}
use Rattle.release_bound.specs.ReleaseOrder.{IsLate}

-- the coflow waits, and none that waits arrives later, or at the same time with a greater number
pub record IsLatestWaiting (waiting : List Bool) (arrivals : List ℕ) (coflow : ℕ) : Type 0 where
  pub waits : is_present waiting coflow ≡ true
  pub latest : (other : ℕ) → is_present waiting other ≡ true →
      (slice_index arrivals other < slice_index arrivals coflow) ⊎
      ((slice_index arrivals other ≡ slice_index arrivals coflow) × (other ≤ coflow))

-- the place that comes before those that are there
pub record IsReleaseChosen (quarters : ℕ) (t : LoadTable) (arrivals residuals : List ℕ) (waiting : List Bool)
    (x : ReleasePlace) : Type 0 where
  pub port : IsGreatestPort t x.port
  pub waits : is_present waiting x.coflow ≡ true
  pub latest : ℕ
  pub is_latest : IsLatestWaiting waiting arrivals latest
  pub late_coflow : IsLate quarters (total_at t x.port) (slice_index arrivals latest) → x.coflow ≡ latest
  pub late_y : IsLate quarters (total_at t x.port) (slice_index arrivals latest) → x.y ≡ 0
  pub early_coflow : (IsLate quarters (total_at t x.port) (slice_index arrivals latest) → ⊥) →
      IsLeastRatio t residuals x.port x.coflow
  pub early_y : (IsLate quarters (total_at t x.port) (slice_index arrivals latest) → ⊥) →
      x.y ≡ slice_index residuals x.coflow / load_at t x.coflow x.port
  pub z_is : x.z ≡ slice_index residuals x.coflow - x.y * load_at t x.coflow x.port

-- what a `ReleaseBssi` is: for how many coflows it has room, and the places of its last run
pub record ReleaseOrders : Type 0 where
  pub room : ℕ
  pub places : List ReleasePlace

-- What an online run must meet, so that its text can be read.
use Rattle.std.specs.Prelude.{◌≢◌, ℕ, ◌+◌, ◌<◌, ◌≤◌, ◌^◌, All, length, map, sum_by}
use Rattle.std.specs.List.{slice_index_or}
use Rattle.std.specs.List.Sorted.{IsStrictlyIncreasing}
use Rattle.coflow_units.specs.declared.limits.TheConstants.{MAX_SLOT}
use Rattle.coflow_units.specs.declared.fabric.Port.{Port}
use Rattle.coflow_units.specs.declared.plan.Run.{Run}
use Rattle.report_text.specs.Readers.{IsRun}
use Rattle.online_text.specs.declared.value.DoneLine.{DoneLine}
use Rattle.online_text.specs.declared.value.Epoch.{Epoch}
use Rattle.online_text.specs.declared.value.Online.{Online}
use Rattle.online_text.specs.declared.value.OnlinePlace.{OnlinePlace}
use Rattle.online_text.specs.declared.value.ReleaseLine.{ReleaseLine}

-- The times of the publishings rise. Runs have slots, at most 2^41 - 1 together; the flows of a run ascend, and
-- neighbouring runs differ in their flows.
pub record IsOnline (o : Online) : Type 0 where
  pub rising : IsStrictlyIncreasing (map (λ (e : Epoch). e.time) o.epochs)
  pub run : All IsRun o.runs
  pub few_slots : sum_by (λ (run : Run). run.length) o.runs ≤ MAX_SLOT
  pub maximal : (k : ℕ) (d : Run) → k + 1 < length o.runs →
      (slice_index_or o.runs k d).flows ≢ (slice_index_or o.runs (k + 1) d).flows

-- what a line says of a place fits its types
pub record IsSmallCharge (id : ℕ) (port : Port) (y : ℕ) : Type 0 where
  pub id_fits : id < 2 ^ 32
  pub port_fits : port.number < 2 ^ 32
  pub y_fits : y < 2 ^ 128

-- each number of a publishing fits its type, and places are counted below 2^128
pub record IsSmallEpoch (e : Epoch) : Type 0 where
  pub time : e.time < 2 ^ 64
  pub count : length e.places < 2 ^ 128
  pub places : All (λ (p : OnlinePlace). IsSmallCharge p.id p.port p.y) e.places
  pub bound : e.bound < 2 ^ 128

pub record IsSmallDone (d : DoneLine) : Type 0 where
  pub id : d.id < 2 ^ 32
  pub slot : d.slot < 2 ^ 64

pub record IsSmallRelease (r : ReleaseLine) : Type 0 where
  pub charge : IsSmallCharge r.id r.port r.y
  pub z : r.z < 2 ^ 128

-- each number of the online run fits its type, and the places of the released certificate are counted below 2^128
pub record HasSmallNumbers (o : Online) : Type 0 where
  pub epochs : All IsSmallEpoch o.epochs
  pub done : All IsSmallDone o.done
  pub cost : o.cost < 2 ^ 128
  pub count : length o.release < 2 ^ 128
  pub release : All IsSmallRelease o.release
  pub total : o.total < 2 ^ 128

-- Which coflows are in the front of a place, and what they have on its port.
use Rattle.std.specs.Prelude.{◌≡◌, ℕ, ◌+◌, ◌<◌, ◌≤◌, ◌==◌, if◌then◌else◌, Bool, List, Contains, length, slice_index}
use Rattle.std.specs.List.{list_any}
use Rattle.coflow_units.specs.declared.limits.TheConstants.{MAX_COFLOWS}
use Rattle.coflow_units.specs.Certificate.{front}
use Rattle.port_load.specs.LoadTable.{LoadTable, load_at}
use Rattle.dual_cert.specs.declared.cert.Charge.{Charge}
use Rattle.dual_cert.specs.TableCertificate.{entries_to, port_at}

-- the coflow stands at the place, counted from 0, or at one before it
abbrev pub is_up_to : List Charge → ℕ → ℕ → Bool
is_up_to charges place coflow = list_any (λ c. c == coflow) (front (entries_to (place + 1) charges))

-- the load of the coflow on the place's port, where it is in the front of the place
abbrev pub load_up_to : LoadTable → List Charge → ℕ → ℕ → ℕ
load_up_to t charges place coflow =
    if is_up_to charges place coflow then load_at t coflow (port_at charges place) else 0

-- for each coflow a number that is at most a place's number exactly where the coflow is in the front of that place
pub record HasPlaces (charges : List Charge) (places : List ℕ) : Type 0 where
  pub len : length places ≡ MAX_COFLOWS
  pub early : (coflow place : ℕ) → coflow < MAX_COFLOWS → place < length charges → slice_index places coflow ≤ place →
      Contains (front (entries_to (place + 1) charges)) coflow
  pub late : (coflow place : ℕ) → coflow < MAX_COFLOWS → place < length charges → place < slice_index places coflow →
      Contains (front (entries_to (place + 1) charges)) coflow → ⊥

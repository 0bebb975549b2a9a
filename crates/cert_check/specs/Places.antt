-- The places of a report. They name coflows by their ids, and stand from place 1 on, while a certificate stands from
-- its last place to its first.
use Rattle.std.specs.Prelude.{◌≡◌, ℕ, ◌+◌, ◌-◌, ◌<◌, ◌≤◌, ◌⊎◌, ◌==◌, List, All, Contains, length, map, position}
use Rattle.std.specs.Prelude.{reverse, slice_index, take, unwrap_or}
use Rattle.coflow_units.specs.Certificate.{Entry}
use Rattle.coflow_units.specs.Flows.{IsDistinct}
use Rattle.report_text.specs.declared.value.PlaceLine.{PlaceLine}
use Rattle.report_text.specs.Text.{place_at}

-- the coflow that has the id, or the number of coflows where none has it
abbrev pub coflow_with : List ℕ → ℕ → ℕ
coflow_with ids id = unwrap_or (position (λ x. x == id) ids) (length ids)

-- the ids of the places
abbrev pub ids_in : List PlaceLine → List ℕ
ids_in places = map (λ (p : PlaceLine). p.id) places

-- the coflows of the places
abbrev pub coflows_in : List ℕ → List PlaceLine → List ℕ
coflows_in ids places = map (coflow_with ids) (ids_in places)

-- the completions that the places state
abbrev pub ends_in : List PlaceLine → List ℕ
ends_in places = map (λ (p : PlaceLine). p.done) places

-- what a place of the coflow says as an entry of a certificate
abbrev pub entry_with : ℕ → PlaceLine → Entry
entry_with coflow p = record { coflow = coflow; port = p.port; y = p.y }

-- what a place says as an entry of a certificate
abbrev pub entry_for : List ℕ → PlaceLine → Entry
entry_for ids p = entry_with (coflow_with ids p.id) p

-- the places as a certificate
abbrev pub certificate_in : List ℕ → List PlaceLine → List Entry
certificate_in ids places = reverse (map (entry_for ids) places)

-- the id at a place, counted from 0, is a coflow's, and stands at no place before
pub record IsNew (ids stated : List ℕ) (k : ℕ) : Type 0 where
  pub known : Contains ids (slice_index stated k)
  pub once : Contains (take k stated) (slice_index stated k) → ⊥

-- the id at a place, counted from 0, is no coflow's, or stands at a place before
abbrev pub IsNotNew : List ℕ → List ℕ → ℕ → Type 0
IsNotNew ids stated k = (Contains ids (slice_index stated k) → ⊥) ⊎ Contains (take k stated) (slice_index stated k)

-- a place, counted from 0, has no new id, or it is missing: the places end right before it, and are fewer than the
-- coflows
abbrev pub IsWrong : List ℕ → List ℕ → ℕ → Type 0
IsWrong ids stated k = ((k < length stated) × IsNotNew ids stated k) ⊎ ((k ≡ length stated) × (k < length ids))

-- the place, counted from 1, is the first that is wrong
pub record IsFirstWrong (ids stated : List ℕ) (place : ℕ) : Type 0 where
  pub counted : 1 ≤ place
  pub wrong : IsWrong ids stated (place - 1)
  pub before : (k : ℕ) → k + 1 < place → IsNew ids stated k

-- the place, counted from 1, is the first whose port is out of range, and that is the port's number
pub record IsFirstOutOfRange (ports : ℕ) (places : List PlaceLine) (place number : ℕ) : Type 0 where
  pub counted : 1 ≤ place
  pub inside : place ≤ length places
  pub has : (place_at places (place - 1)).port.number ≡ number
  pub beyond : ports ≤ number
  pub before : (k : ℕ) → k + 1 < place → (place_at places k).port.number < ports

-- the coflows with numbers below the count stand in the list, each once
pub record NamesEach (count : ℕ) (coflows : List ℕ) : Type 0 where
  pub once : IsDistinct coflows
  pub coflow : All (λ c. c < count) coflows
  pub all : (c : ℕ) → c < count → Contains coflows c

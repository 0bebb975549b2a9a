-- How bars are drawn, run by run.
use Rattle.std.specs.Prelude.{◌≡◌, ◌≢◌, ℕ, ◌+◌, ◌-◌, ◌^◌, ◌≤◌, ◌⊎◌, ◌++◌, Bool, true, false, List, [], ◌∷◌}
use Rattle.std.specs.Prelude.{Contains, length, min, set}
use Rattle.std.specs.List.{slice_index_or}
use Rattle.coflow_units.specs.declared.fabric.Flow.{Flow}
use Rattle.coflow_units.specs.Flows.{coflow_of}
use Rattle.schedule_model.specs.Repeat.{end_number}
use Rattle.picture.specs.declared.value.Bar.{Bar}
use Rattle.picture.specs.declared.value.Window.{Window}
use Rattle.picture.specs.declared.value.TheConstants.{MAX_BARS}
use Rattle.picture.specs.Bars.{bar_count}

-- the bars of a port
abbrev pub row_at : List (List Bar) → ℕ → List Bar
row_at rows port = slice_index_or rows port []

-- the rows with another one for the port
abbrev pub with_row : List (List Bar) → ℕ → List Bar → List (List Bar)
with_row rows port row = set rows port row

-- the bar up to another last slot
abbrev pub longer : Bar → ℕ → Bar
longer b last = record { coflow = b.coflow; first = b.first; last = last }

-- the last bar of the row is of the stretch's coflow and ends right before it
pub record GoesOn (row : List Bar) (stretch : Bar) (before : List Bar) (b : Bar) : Type 0 where
  pub row_is : row ≡ before ++ b ∷ []
  pub same : b.coflow ≡ stretch.coflow
  pub next : b.last + 1 ≡ stretch.first

-- the stretch makes the row's last bar longer
abbrev pub IsJoined : List Bar → Bar → List Bar → Type 0
IsJoined old stretch new =
    (before : List Bar) × (b : Bar) × GoesOn old stretch before b × (new ≡ before ++ longer b stretch.last ∷ [])

-- the stretch goes on from no bar of the row
abbrev pub IsApart : List Bar → Bar → Type 0
IsApart old stretch = (before : List Bar) (b : Bar) → GoesOn old stretch before b → ⊥

-- the answer tells whether the stretch was joined, and the row is as it was where not
abbrev pub Joins : List Bar → Bar → List Bar → Bool → Type 0
Joins old stretch new true = IsJoined old stretch new
Joins old stretch new false = (new ≡ old) × IsApart old stretch

-- the row with the stretch: joined with the last bar, or as a bar of its own
abbrev pub Grows : List Bar → Bar → List Bar → Type 0
Grows old stretch new = IsJoined old stretch new ⊎ (IsApart old stretch × (new ≡ old ++ stretch ∷ []))

-- the kept bars are the last ones of all, and some are kept where there are any
abbrev pub EndsWith : List Bar → List Bar → Type 0
EndsWith all kept = (front : List Bar) × (all ≡ front ++ kept) × (kept ≡ [] → all ≡ [])

-- the rows that are kept of all rows, and how many bars all rows have: all where these are not too many
pub record Keeps (all kept : List (List Bar)) (count : ℕ) : Type 0 where
  pub counted : count ≡ min (bar_count all) (2 ^ 64 - 1)
  pub row_each : length kept ≡ length all
  pub ends : (port : ℕ) → EndsWith (row_at all port) (row_at kept port)
  pub whole : bar_count all ≤ MAX_BARS → kept ≡ all

-- the rows with a stretch from the window's first slot to its last for each flow, at its port on the window's side
pub record IsDrawn (flows : List Flow) (numbers : List ℕ) (window : Window) (old new : List (List Bar)) : Type 0 where
  pub row_each : length new ≡ length old
  pub used : (f : ℕ) → Contains numbers f →
      Grows (row_at old (end_number flows window.side f))
      record { coflow = coflow_of flows f; first = window.first; last = window.last }
      (row_at new (end_number flows window.side f))
  pub other : (port : ℕ) → ((f : ℕ) → Contains numbers f → end_number flows window.side f ≢ port) →
      row_at new port ≡ row_at old port

-- The bars of a schedule in a window. Slots count from 1.
use Rattle.std.specs.Prelude.{◌≡◌, ℕ, ◌+◌, ◌-◌, ◌^◌, ◌<◌, ◌≤◌, List, [], All, AllPairs, Contains, length, min, sum_by}
use Rattle.std.specs.List.{slice_index_or}
use Rattle.coflow_units.specs.declared.fabric.Flow.{Flow}
use Rattle.coflow_units.specs.declared.fabric.Side.{Side}
use Rattle.coflow_units.specs.Flows.{coflow_of}
use Rattle.schedule_model.specs.Fault.{StandsIn}
use Rattle.schedule_model.specs.Repeat.{end_number}
use Rattle.picture.specs.declared.value.Bar.{Bar}
use Rattle.picture.specs.declared.value.Window.{Window}
use Rattle.picture.specs.declared.value.BarsFault.{BarsFault}
use Rattle.picture.specs.declared.value.BarsFault.TheVariants.{TooMany, NoMemory}
use Rattle.picture.specs.declared.value.TheConstants.{MAX_BARS}

-- in the slot, a flow of the coflow uses the port of this number on the side
pub record Serves (flows : List Flow) (slots : List (List ℕ)) (side : Side) (port slot coflow : ℕ) : Type 0 where
  pub flow : ℕ
  pub stands : StandsIn slots slot flow
  pub at_port : end_number flows side flow ≡ port
  pub of_coflow : coflow_of flows flow ≡ coflow

-- The coflow is served in each slot of the bar, and in neither slot next to it. Slots outside the window, which is from
-- `first` to `last`, do not count.
pub record IsBar (served : ℕ → ℕ → Type 0) (first last : ℕ) (b : Bar) : Type 0 where
  pub some : b.first ≤ b.last
  pub from : first ≤ b.first
  pub upto : b.last ≤ last
  pub each_slot : (slot : ℕ) → b.first ≤ slot → slot ≤ b.last → served slot b.coflow
  pub not_before : first < b.first → served (b.first - 1) b.coflow → ⊥
  pub not_after : b.last < last → served (b.last + 1) b.coflow → ⊥

-- the bar is of the coflow and has the slot
pub record Covers (b : Bar) (slot coflow : ℕ) : Type 0 where
  pub of_coflow : b.coflow ≡ coflow
  pub from : b.first ≤ slot
  pub upto : slot ≤ b.last

-- the bars of a port: each is one, each slot of the window in which a coflow is served is in one, and they ascend
pub record IsRow (served : ℕ → ℕ → Type 0) (first last : ℕ) (row : List Bar) : Type 0 where
  pub bars : All (IsBar served first last) row
  pub all : (slot coflow : ℕ) → first ≤ slot → slot ≤ last → served slot coflow →
      (b : Bar) × Contains row b × Covers b slot coflow
  pub ascending : AllPairs (λ (a : Bar) (b : Bar). a.last < b.first) row

-- for each port of the window's side its bars
pub record IsBars (flows : List Flow) (slots : List (List ℕ)) (ports : ℕ) (window : Window) (rows : List (List Bar)) :
    Type 0 where
  pub row_each : length rows ≡ ports
  pub row : (port : ℕ) → port < ports →
      IsRow (Serves flows slots window.side port) window.first window.last (slice_index_or rows port [])

-- how many bars there are
abbrev pub bar_count : List (List Bar) → ℕ
bar_count rows = sum_by length rows

-- there are more bars than a picture may have, and the fault tells their number, or 2^64 - 1 where it is greater
abbrev pub IsTooMany : List Flow → List (List ℕ) → ℕ → Window → BarsFault → Type 0
IsTooMany flows slots ports window (TooMany bars) =
    (rows : List (List Bar)) × IsBars flows slots ports window rows × (MAX_BARS < bar_count rows) ×
    (bars ≡ min (bar_count rows) (2 ^ 64 - 1))
IsTooMany flows slots ports window NoMemory = Unit {0}

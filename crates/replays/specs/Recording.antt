-- What is recorded of a replay, and what a step adds to it.
use Rattle.std.specs.Prelude.{◌≡◌, ℕ, ◌<◌, ◌≤◌, Bool, List, [], ◌∷◌, ◌++◌, All, Contains, Option, None, Some}
use Rattle.std.specs.Prelude.{length, map, replicate, sum}
use Rattle.coflow_units.specs.declared.limits.TheConstants.{MAX_UNITS, MAX_WEIGHT}
use Rattle.coflow_units.specs.Flows.{Instance, IsInstance}
use Rattle.flow_table.specs.Table.{TableFacts}
use Rattle.master_core.specs.Published.{IsLeft}
use Rattle.replays.specs.declared.progress.Progress.{Progress}
use Rattle.replays.specs.declared.recording.Recording.{Recording}
use Rattle.replays.specs.Moments.{Input, Moment}
use Rattle.replays.specs.Recorded.{epoch_told}

-- there is room for the orders of the coflows of the table with these weights
pub record HasRoomFor (t : TableFacts) (weights : List ℕ) (r : Recording) : Type 0 where
  pub weights_are : r.weights.items ≡ weights
  pub coflows : r.loads.coflows ≡ length t.ids
  pub ports : r.loads.ports ≡ t.ports
  pub room : length t.ids ≤ r.ordering.room
  pub each_charge : length r.charges.items ≡ length t.ids

-- what is recorded are the orders and the slots of the moment
pub record IsRecordingOf (x : Input) (m : Moment) (r : Recording) : Type 0 where
  pub room : HasRoomFor x.table x.weights r
  pub epochs_are : r.epochs.items ≡ map (epoch_told x.table.ids) m.publishings
  pub schedule_is : r.schedule ≡ m.slots

-- so it is where something is recorded
abbrev pub TellsRecording : Input → Moment → Option Recording → Type 0
TellsRecording x m None = Unit {0}
TellsRecording x m (Some r) = IsRecordingOf x m r

-- something is recorded both before and after, and this holds of both; or nothing is
abbrev pub BothRecorded : Option Recording → Option Recording → (Recording → Recording → Type 0) → Type 0
BothRecorded None None holds = Unit {0}
BothRecorded None (Some b) holds = ⊥
BothRecorded (Some a) None holds = ⊥
BothRecorded (Some a) (Some b) holds = holds a b

-- ---- a run

-- so many slots with these flows were added
pub record IsRunRecorded (count : ℕ) (flows : List ℕ) (old new : Recording) : Type 0 where
  pub schedule : new.schedule ≡ old.schedule ++ replicate count flows
  pub epochs : new.epochs ≡ old.epochs
  pub room : (t : TableFacts) (weights : List ℕ) → HasRoomFor t weights old → HasRoomFor t weights new

-- ---- an order

-- the flows have so many units left and these coflows are present: this is an instance, with weights within their limit
pub record IsWhatIsLeft (t : TableFacts) (weights left : List ℕ) (present : List Bool) : Type 0 where
  pub each_weight : length weights ≡ length t.ids
  pub weight : All (λ w. w ≤ MAX_WEIGHT) weights
  pub each_left : length left ≡ length t.flows
  pub each_present : length present ≡ length t.ids
  pub units : sum left ≤ MAX_UNITS
  pub instance : Instance
  pub is_instance : IsInstance instance
  pub is_left : IsLeft instance t.flows left weights present t.ports

-- an order of this line may be recorded
pub record MayRecord (t : TableFacts) (left : List ℕ) (present : List Bool) (line : List ℕ) (r : Recording) : Type 0
  where
    pub room : HasRoomFor t r.weights.items r
    pub left_is : IsWhatIsLeft t r.weights.items left present
    pub known : All (λ c. c < length t.ids) line

-- the order of this line was added: what was left then is each instance whose coflows are present and have so much left
pub record IsOrderRecorded (t : TableFacts) (p : Progress) (present : List Bool) (line : List ℕ)
    (old new : Recording) : Type 0 where
  pub schedule : new.schedule ≡ old.schedule
  pub room : HasRoomFor t old.weights.items new
  pub epochs : (i : Instance) → IsInstance i → IsLeft i t.flows p.left.items old.weights.items present t.ports →
      ((c : ℕ) → Contains line c → Contains i.coflows c) →
      new.epochs.items ≡ old.epochs.items ++ epoch_told t.ids record { time = p.time; left = i; line = line } ∷ []

-- The open run as it is kept, with the granted flow and the note of each ingress, and the grants that are kept from run
-- to run.
use Rattle.std.specs.Prelude.{◌≡◌, ℕ, ◌+◌, ◌-◌, ◌<◌, ◌≤◌, ◌↔◌, ◌&&◌, Bool, true, min, nat_lt, if◌then◌else◌, List, []}
use Rattle.std.specs.Prelude.{All, Contains, length, slice_index, slice_set, Option, Some, None, unwrap_or}
use Rattle.std.specs.List.{slice_index_or}
use Rattle.std.specs.List.Sorted.{IsStrictlyIncreasing}
use Rattle.coflow_units.specs.declared.fabric.Flow.{Flow}
use Rattle.coflow_units.specs.Flows.{ingress_of}
use Rattle.coflow_units.specs.Grants.{IsGrants}
use Rattle.journal.specs.State.{has, slot_end}
use Rattle.journal.specs.Runs.{least_of}
use Rattle.matching.specs.declared.tables.Tables.{Tables}
use Rattle.matching.specs.Matching.{IsSettled, ports_of}
use Rattle.matching.specs.Ranking.{number_of}
use Rattle.matching.specs.Sound.{rank_at}

-- the flow that is granted at an ingress
abbrev pub granted_at : Tables → ℕ → Option ℕ
granted_at m ingress =
    if nat_lt ingress (ports_of m) && nat_lt (rank_at m ingress) m.ranks.count
    then Some (number_of m.ranks (rank_at m ingress)) else None

-- the flow at an ingress is the granted one that begins there
abbrev pub TellsIngresses : List Flow → List ℕ → Tables → Type 0
TellsIngresses flows granted m = (ingress f : ℕ) →
    (granted_at m ingress ≡ Some f) ↔ (Contains granted f × (ingress_of flows f ≡ ingress))

-- the first slot, how many slots there are, the granted flows with their tables, and for each ingress what was noted
-- last
pub record KeptRun : Type 0 where
  pub first : ℕ
  pub slots : ℕ
  pub granted : List ℕ
  pub tables : Tables
  pub noted : List (Option ℕ)

-- the number of ports on each side, the tables of the grants that are kept, whether these are fresh, and the open run
pub record KeptRuns : Type 0 where
  pub ports : ℕ
  pub tables : Tables
  pub fresh : Bool
  pub run : Option KeptRun

-- where the kept grants are fresh, they are those of the line and of these units that are owed
abbrev pub KeepsGrants : List Flow → List ℕ → List ℕ → KeptRuns → Type 0
KeepsGrants flows line owed x = x.fresh ≡ true → IsSettled flows line (λ f. slice_index owed f) x.tables

-- what was noted last at an ingress
abbrev pub note_at : List (Option ℕ) → ℕ → Option ℕ
note_at noted ingress = slice_index_or noted ingress None

-- the run grants the flows of the slot for as long as they can stay so, at most for so many slots and up to the last
-- one, and nothing is noted
pub record IsBegun (flows : List Flow) (ports : ℕ) (line : List ℕ) (left : ℕ → ℕ) (first most : ℕ) (r : KeptRun) : Type
    0 where
  pub first_is : r.first ≡ first
  pub slots_is : r.slots ≡ least_of left r.granted (min most (slot_end - first))
  pub grants : IsGrants flows line left r.granted
  pub at : TellsIngresses flows r.granted r.tables
  pub settled : IsSettled flows line left r.tables
  pub noted_len : length r.noted ≡ ports
  pub noted : (ingress : ℕ) → note_at r.noted ingress ≡ None

-- the granted flow at an ingress, where a run is open
abbrev pub flow_kept : Option KeptRun → ℕ → Option ℕ
flow_kept None ingress = None
flow_kept (Some r) ingress = granted_at r.tables ingress

-- the granted flows, where a run is open
abbrev pub flows_kept : Option KeptRun → List ℕ
flows_kept None = []
flows_kept (Some r) = r.granted

-- what was noted last at an ingress, where a run is open
abbrev pub kept_note : Option KeptRun → ℕ → Option ℕ
kept_note None ingress = None
kept_note (Some r) ingress = note_at r.noted ingress

-- the note of so many units at an ingress with this grant, in a run of so many slots
abbrev pub note_of : ℕ → ℕ → Option ℕ → Option ℕ
note_of slots units None = None
note_of slots units (Some flow) = Some (min units slots)

-- what is noted at an ingress, where it has a grant in the open run
abbrev pub number_noted : Option KeptRun → ℕ → ℕ → Option ℕ
number_noted None ingress units = None
number_noted (Some r) ingress units = note_of r.slots units (granted_at r.tables ingress)

-- the run with a note
abbrev pub with_note : Option KeptRun → ℕ → Option ℕ → Option KeptRun
with_note None ingress number = None
with_note (Some r) ingress None = Some r
with_note (Some r) ingress (Some n) = Some (record r { noted = slice_set r.noted ingress (Some n) })

-- the units that are credited to a flow: where it is granted, the number noted at its ingress, or one for each slot
abbrev pub credit_of : List Flow → List ℕ → List (Option ℕ) → ℕ → ℕ → ℕ
credit_of flows granted noted slots f =
    if has granted f then unwrap_or (note_at noted (ingress_of flows f)) slots else 0

abbrev pub kept_credit : List Flow → KeptRun → ℕ → ℕ
kept_credit flows r f = credit_of flows r.granted r.noted r.slots f

-- The flows of the open run are the table's, each once, and each owes a unit for each slot; no note is above its
-- length. Its tables are those of a line of coflows and of what is owed.
pub record FitsRun (flows : List Flow) (owed : List ℕ) (r : KeptRun) : Type 0 where
  pub ends : r.first + r.slots ≤ slot_end
  pub ascending : IsStrictlyIncreasing r.granted
  pub flow : All (λ f. f < length flows) r.granted
  pub each_owes : All (λ f. r.slots ≤ slice_index owed f) r.granted
  pub notes : (ingress : ℕ) → unwrap_or (note_at r.noted ingress) r.slots ≤ r.slots
  pub settled : (line : List ℕ) × IsSettled flows line (λ f. slice_index owed f) r.tables

abbrev pub FitsOpen : List Flow → List ℕ → Option KeptRun → Type 0
FitsOpen flows owed None = Unit {0}
FitsOpen flows owed (Some r) = FitsRun flows owed r

-- What a master begins with, and the state that its journal has made of it.
use Rattle.std.specs.Prelude.{◌≡◌, ℕ, ◌+◌, ◌≤◌, ◌-◌, ◌^◌, ◌==◌, ◌&&◌, Bool, not, if◌then◌else◌, List, length, All, Option}
use Rattle.coflow_units.specs.declared.limits.TheConstants.{MAX_SLOT, MAX_WEIGHT}
use Rattle.std.specs.List.{filter, list_any, range_with_len}
use Rattle.coflow_units.specs.Flows.{Instance, coflow_of, units_of, with_units}
use Rattle.flow_table.specs.Table.{IsTable}
use Rattle.journal.specs.declared.opening.Opening.{Opening}

-- an open run: its first slot, how many slots it has, its granted flows, and the notes that were made, each an ingress
-- port with the units sent from it, the newest first
pub record Run : Type 0 where
  pub first : ℕ
  pub slots : ℕ
  pub granted : List ℕ
  pub notes : List (ℕ × ℕ)

-- the coflows that joined, in joining order, and those that left, the weights, what was left at each publishing
-- (version 1 first), the units sent of each flow, the open run, and the next slot
pub record State : Type 0 where
  pub joined : List ℕ
  pub left : List ℕ
  pub weight : ℕ → ℕ
  pub published : List Instance
  pub sent : ℕ → ℕ
  pub run : Option Run
  pub next : ℕ

-- the number stands in the list
abbrev pub has : List ℕ → ℕ → Bool
has xs x = list_any (λ y. y == x) xs

-- no slot is at or after this one
abbrev pub slot_end : ℕ
slot_end = MAX_SLOT + 1

-- The flows stand in a table that is within its limits, each coflow has a weight within its range, and so is the limit
-- of the journal.
pub record IsOpening (o : Opening) : Type 0 where
  pub table : IsTable o.table
  pub each_weight : length o.weights ≡ length o.table.ids
  pub weight : All (λ w. (1 ≤ w) × (w ≤ MAX_WEIGHT)) o.weights
  pub limit : 1 ≤ o.limit
  pub few_entries : o.limit ≤ 2 ^ 23

-- the coflow joined and has not left
abbrev pub is_present : State → ℕ → Bool
is_present s coflow = has s.joined coflow && not (has s.left coflow)

-- the present coflows, in number order
abbrev pub present : Opening → State → List ℕ
present o s = filter (is_present s) (range_with_len 0 (length o.table.ids))

-- the units that the flow still owes
abbrev pub owed : Opening → State → ℕ → ℕ
owed o s f = units_of o.table.flows f - s.sent f

-- what is left: the present coflows with their weights, and the same flow numbers, each with the units that it owes
-- where its coflow is present, and none elsewhere
abbrev pub what_is_left : Opening → State → Instance
what_is_left o s = record {
  coflows = present o s;
  weight = s.weight;
  ports = o.table.ports;
  flows = with_units (λ f. if has (present o s) (coflow_of o.table.flows f) then owed o s f else 0) o.table.flows;
}

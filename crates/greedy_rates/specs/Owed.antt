-- What the flows owe, with its sums by coflow, by port and by group. A group is flows of one coflow that begin at one
-- ingress and stand one behind another.
use Rattle.std.specs.Prelude.{◌≡◌, ℕ, ◌<◌, ◌≤◌, ◌==◌, List, if◌then◌else◌, length, slice_index, sum_by}
use Rattle.std.specs.List.{range_with_len}
use Rattle.coflow_units.specs.declared.fabric.Flow.{Flow}
use Rattle.coflow_units.specs.Flows.{coflow_of, ingress_of, egress_of}

-- the units left of each flow, their sums, and for each flow the number behind its group; the sum of a group stands at
-- that number
pub record Owed : Type 0 where
  pub left : List ℕ
  pub of_coflow : List ℕ
  pub at_ingress : List ℕ
  pub at_egress : List ℕ
  pub behind : List ℕ
  pub of_group : List ℕ

-- the units left of all flows that have this key
abbrev pub owed_by : (ℕ → ℕ) → List ℕ → ℕ → ℕ
owed_by key left k = sum_by (λ f. if key f == k then slice_index left f else 0) (range_with_len 0 (length left))

-- each flow's key has a place in the table, and the table has the units left of each of its keys
pub record IsTally (key : ℕ → ℕ) (left table : List ℕ) : Type 0 where
  pub within : (f : ℕ) → f < length left → key f < length table
  pub sums : (k : ℕ) → k < length table → slice_index table k ≡ owed_by key left k

-- the flows from any flow up to the number behind its group are of its coflow, begin at its ingress, and are of its
-- group
pub record IsGroups (flows : List Flow) (behind : List ℕ) : Type 0 where
  pub count : length behind ≡ length flows
  pub above : (f : ℕ) → f < length flows → f < slice_index behind f
  pub within : (f : ℕ) → f < length flows → slice_index behind f ≤ length flows
  pub coflow : (f g : ℕ) → f < length flows → f ≤ g → g < slice_index behind f → coflow_of flows g ≡ coflow_of flows f
  pub ingress : (f g : ℕ) → f < length flows → f ≤ g → g < slice_index behind f →
      ingress_of flows g ≡ ingress_of flows f
  pub same : (f g : ℕ) → f < length flows → f ≤ g → g < slice_index behind f →
      slice_index behind g ≡ slice_index behind f

-- the sums are those of these flows
pub record IsOwed (flows : List Flow) (o : Owed) : Type 0 where
  pub count : length o.left ≡ length flows
  pub coflows : IsTally (coflow_of flows) o.left o.of_coflow
  pub ingresses : IsTally (ingress_of flows) o.left o.at_ingress
  pub egresses : IsTally (egress_of flows) o.left o.at_egress
  pub groups : IsGroups flows o.behind
  pub group_sums : IsTally (λ f. slice_index o.behind f) o.left o.of_group

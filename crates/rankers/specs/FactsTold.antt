-- What a ranker is told of the coflows of a table.
use Rattle.std.specs.Prelude.{◌≡◌, ℕ, ◌+◌, ◌*◌, ◌<◌, ◌≤◌, ◌^◌, List, All, length, map, slice_index}
use Rattle.std.specs.List.{range_with_len, slice_index_or}
use Rattle.coflow_units.specs.declared.limits.TheConstants.{MAX_COFLOWS, MAX_UNITS, MAX_WEIGHT}
use Rattle.coflow_units.specs.Certificate.{Entry, order_of}
use Rattle.coflow_units.specs.Flows.{with_units}
use Rattle.coflow_units.specs.Ordering.{IsOrdering}
use Rattle.class_rates.specs.Classes.{IsPermutation}
use Rattle.flow_table.specs.Table.{TableFacts, instance_of}
use Rattle.port_load.specs.Bottleneck.{IsBottleneck}
use Rattle.port_load.specs.LoadTable.{HasLoads, LoadTable}

-- the weight, the arrival and the greatest load of each coflow by number, the loads of the ports, and the coflows in
-- the order by bottleneck, select, scale, iterate
pub record FactsTold : Type 0 where
  pub weights : List ℕ
  pub arrivals : List ℕ
  pub bottlenecks : List ℕ
  pub loads : LoadTable
  pub order : List ℕ

-- the table with a cell for each port and coflow, and no other one
abbrev pub cells_of : LoadTable → LoadTable
cells_of t = record {
  coflows = t.coflows;
  ports = t.ports;
  cells = map (slice_index t.cells) (range_with_len 0 ((t.ports + t.ports) * t.coflows));
}

-- how many coflows there are; they have the numbers from 0 on
abbrev pub coflows_in : FactsTold → ℕ
coflows_in f = length f.weights

-- there is one of each for each coflow, and the numbers are within their limits
pub record IsFacts (f : FactsTold) : Type 0 where
  pub few : coflows_in f ≤ MAX_COFLOWS
  pub weight : All (λ w. w ≤ MAX_WEIGHT) f.weights
  pub arrivals_len : length f.arrivals ≡ coflows_in f
  pub arrival : All (λ a. a < 2 ^ 32) f.arrivals
  pub coflows : f.loads.coflows ≡ coflows_in f
  pub cells_len : length f.loads.cells ≡ (f.loads.ports + f.loads.ports) * f.loads.coflows
  pub bottlenecks_len : length f.bottlenecks ≡ coflows_in f
  pub bottleneck : (c : ℕ) → c < coflows_in f → IsBottleneck f.loads c (slice_index_or f.bottlenecks c 0)
  pub units : All (λ b. b ≤ MAX_UNITS) f.bottlenecks
  pub order_len : length f.order ≡ coflows_in f
  pub order_is : IsPermutation f.order

-- the order is that of the ordering certificate of all coflows
pub record IsBssiOrder (t : TableFacts) (weights order : List ℕ) : Type 0 where
  pub entries : List Entry
  pub ordering : IsOrdering (instance_of t weights) entries
  pub order_is : order ≡ order_of entries

-- these are the facts of a table with these weights
pub record IsFactsOf (t : TableFacts) (weights : List ℕ) (f : FactsTold) : Type 0 where
  pub weights_are : f.weights ≡ weights
  pub arrivals_are : f.arrivals ≡ t.arrivals
  pub ports_are : f.loads.ports ≡ t.ports
  pub loads_are : HasLoads t.flows f.loads
  pub order_is : IsBssiOrder t weights f.order

-- the table with the units that its flows have left
abbrev pub with_left : TableFacts → (ℕ → ℕ) → TableFacts
with_left t left = record {
  flows = with_units left t.flows;
  starts = t.starts;
  ports = t.ports;
  ids = t.ids;
  arrivals = t.arrivals;
}

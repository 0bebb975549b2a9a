-- The coflows of a schedule.
use Rattle.std.specs.Prelude.{◌≡◌, ℕ, ◌<◌, ◌≤◌, ◌⊎◌, ◌==◌, List, [], All, Contains, filter, length, slice_index, sum_by}
use Rattle.std.specs.List.{slice_index_or}
use Rattle.coflow_units.specs.declared.fabric.Flow.{Flow}
use Rattle.coflow_units.specs.declared.fabric.Port.{Port}
use Rattle.coflow_units.specs.Completion.{completion}
use Rattle.coflow_units.specs.Load.{load}
use Rattle.flow_table.specs.Table.{TableFacts}
use Rattle.coflow_stats.specs.declared.finished.Sizes.{Sizes}
use Rattle.coflow_stats.specs.declared.value.Finished.{Finished}

-- the flows of a coflow
abbrev pub flows_in : TableFacts → ℕ → List Flow
flows_in t coflow = filter (λ (x : Flow). x.coflow == coflow) t.flows

-- no flow has more units, and some flow has as many, or there is no flow and it is 0
pub record IsLongest (flows : List Flow) (units : ℕ) : Type 0 where
  pub most : All (λ (x : Flow). x.units ≤ units) flows
  pub some : ((flows ≡ []) × (units ≡ 0)) ⊎ ((x : Flow) × Contains flows x × (x.units ≡ units))

-- how many flows there are, how many units they have together, and how many the longest has
pub record HasSizes (flows : List Flow) (s : Sizes) : Type 0 where
  pub flows_is : s.flows ≡ length flows
  pub units_is : s.units ≡ sum_by (λ (x : Flow). x.units) flows
  pub longest_is : IsLongest flows s.longest

-- the coflow has no more load on any port, and as much on some port
pub record IsGreatestLoad (t : TableFacts) (coflow units : ℕ) : Type 0 where
  pub most : (port : Port) → port.number < t.ports → load t.flows coflow port ≤ units
  pub some : (port : Port) × (port.number < t.ports) × (load t.flows coflow port ≡ units)

-- what is told of a coflow of the table is so, with these weights and arrivals and in this schedule
pub record IsFinished (t : TableFacts) (weights : List ℕ) (arrival : ℕ → ℕ) (slots : List (List ℕ)) (coflow : ℕ)
    (x : Finished) : Type 0 where
  pub id_is : x.id ≡ slice_index t.ids coflow
  pub arrival_is : x.arrival ≡ arrival coflow
  pub flows_is : x.flows ≡ length (flows_in t coflow)
  pub units_is : x.units ≡ sum_by (λ (f : Flow). f.units) (flows_in t coflow)
  pub longest_is : IsLongest (flows_in t coflow) x.longest
  pub bottleneck_is : IsGreatestLoad t coflow x.bottleneck
  pub weight_is : x.weight ≡ slice_index weights coflow
  pub completion_is : x.completion ≡ completion t.flows slots coflow

-- what is told of all coflows of the table, by number
pub record AreFinished (t : TableFacts) (weights : List ℕ) (arrival : ℕ → ℕ) (slots : List (List ℕ))
    (xs : List Finished) : Type 0 where
  pub count : length xs ≡ length t.ids
  pub each_is : (coflow : ℕ) (d : Finished) → coflow < length t.ids →
      IsFinished t weights arrival slots coflow (slice_index_or xs coflow d)

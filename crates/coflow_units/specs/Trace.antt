-- What a trace says, within the limits of the coflow-benchmark format as this project reads it.
use Rattle.std.specs.Prelude.{ℕ, ◌*◌, ◌≤◌, List, All, length, map}
use Rattle.coflow_units.specs.declared.limits.TheConstants.{MAX_COFLOWS, MAX_MAPPERS, MAX_MEGABYTES, MAX_PORTS}
use Rattle.coflow_units.specs.declared.limits.TheConstants.{MAX_REDUCERS}
use Rattle.coflow_units.specs.declared.trace.CoflowLine.{CoflowLine}
use Rattle.coflow_units.specs.declared.trace.Reducer.{Reducer}
use Rattle.coflow_units.specs.declared.trace.Trace.{Trace}
use Rattle.coflow_units.specs.Flows.{IsDistinct}

-- the ids of the coflows, by number
abbrev pub ids_of : List CoflowLine → List ℕ
ids_of coflows = map (λ (x : CoflowLine). x.id) coflows

-- A coflow has from 1 to 4096 mappers and at most 4096 reducers, at locations from 0 to the number of ports, and a
-- reducer is of at most 2^40 megabytes, in millionths.
pub record IsCoflowLine (number : ℕ) (x : CoflowLine) : Type 0 where
  pub has_mapper : 1 ≤ length x.mappers
  pub few_mappers : length x.mappers ≤ MAX_MAPPERS
  pub mappers : All (λ m. m ≤ number) x.mappers
  pub few_reducers : length x.reducers ≤ MAX_REDUCERS
  pub reducers : All (λ (r : Reducer). r.location ≤ number) x.reducers
  pub sizes : All (λ (r : Reducer). r.millionths ≤ MAX_MEGABYTES * 1000000) x.reducers

-- A trace names from 1 to 1024 ports and has at most 4096 coflows, and no two of them have one id.
pub record IsTrace (t : Trace) : Type 0 where
  pub has_ports : 1 ≤ t.number
  pub few_ports : t.number ≤ MAX_PORTS
  pub few_coflows : length t.coflows ≤ MAX_COFLOWS
  pub ids : IsDistinct (ids_of t.coflows)
  pub lines : All (λ (x : CoflowLine). IsCoflowLine t.number x) t.coflows

-- What is sent from one location to another.
use Rattle.std.specs.Prelude.{ℕ, ◌==◌, List, [], length, if◌then◌else◌, slice_index, sum_by}
use Rattle.std.specs.List.{range_with_len, slice_index_or}
use Rattle.coflow_units.specs.declared.trace.CoflowLine.{CoflowLine}
use Rattle.coflow_units.specs.declared.trace.Reducer.{Reducer}
use Rattle.coflow_units.specs.declared.trace.Trace.{Trace}
use Rattle.flow_table.specs.Units.{share, units_of_reducer}

-- the places of the mappers in their line, from 0
abbrev pub places : CoflowLine → List ℕ
places x = range_with_len 0 (length x.mappers)

-- what the mappers at the ingress send of so many units; a location that the line names again sends for each time
abbrev pub sent_of : CoflowLine → ℕ → ℕ → ℕ
sent_of x units ingress = sum_by
    (λ place. if slice_index x.mappers place == ingress then share (length x.mappers) units place else 0) (places x)

-- what a coflow sends from the ingress to the egress: its mappers there send their shares of all reducers there
abbrev pub sent_by : ℕ → CoflowLine → ℕ → ℕ → ℕ
sent_by unit x ingress egress =
    sum_by (λ (r : Reducer). if r.location == egress then sent_of x (units_of_reducer unit r) ingress else 0) x.reducers

-- the line of a coflow, by number; past the last one there is nothing to send
abbrev pub line_of : Trace → ℕ → CoflowLine
line_of t coflow = slice_index_or t.coflows coflow record { id = 0; arrival = 0; mappers = []; reducers = [] }

-- what the coflow with a number sends from the ingress to the egress
abbrev pub sent : Trace → ℕ → ℕ → ℕ → ℕ → ℕ
sent t unit coflow ingress egress = sent_by unit (line_of t coflow) ingress egress

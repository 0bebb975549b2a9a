-- What a made trace says.
use Rattle.std.specs.Prelude.{ℕ, ◌*◌, List, map}
use Rattle.coflow_units.specs.declared.trace.CoflowLine.{CoflowLine}
use Rattle.coflow_units.specs.declared.trace.Reducer.{Reducer}
use Rattle.coflow_units.specs.declared.trace.Trace.{Trace}
use Rattle.workload.specs.declared.coflow.MadeCoflow.{MadeCoflow}
use Rattle.workload.specs.declared.coflow.MadeReducer.{MadeReducer}
use Rattle.workload.specs.Coflows.{made_coflows}

-- A made reducer has whole megabytes, each of a million millionths.
abbrev pub said_reducer : MadeReducer → Reducer
said_reducer r = record { location = r.location; millionths = r.megabytes * 1000000 }

-- What the line of a made coflow says. A trace says nothing of weights.
abbrev pub said_coflow : MadeCoflow → CoflowLine
said_coflow c = record { id = c.id; arrival = c.arrival; mappers = c.mappers; reducers = map said_reducer c.reducers }

-- The trace of a seed: 150 ports, and the made coflows.
abbrev pub made_trace : ℕ → Trace
made_trace seed = record { number = 150; coflows = map said_coflow (made_coflows seed) }

-- The weights of a seed, one for each coflow.
abbrev pub made_weights : ℕ → List ℕ
made_weights seed = map (λ (c : MadeCoflow). c.weight) (made_coflows seed)

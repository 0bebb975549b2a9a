-- The texts of made coflows: a trace, and the weights.
use Rattle.coflow_units.specs.Text.{spaced, text_of}
use Rattle.std.specs.Prelude.{ℕ, ◌++◌, List, ◌∷◌, length, map, codes, decimal}
use Rattle.std.specs.List.{flat_map}
use Rattle.workload.specs.declared.coflow.MadeCoflow.{MadeCoflow}
use Rattle.workload.specs.declared.coflow.MadeReducer.{MadeReducer}

-- a reducer behind a space: its location, a colon, its megabytes
abbrev pub reducer_word : MadeReducer → List ℕ
reducer_word r = spaced r.location ++ codes ":" ++ decimal r.megabytes

-- how many mappers there are, and each of them
abbrev pub mapper_words : List ℕ → List ℕ
mapper_words mappers = spaced (length mappers) ++ flat_map spaced mappers

-- how many reducers there are, and each of them
abbrev pub reducer_words : List MadeReducer → List ℕ
reducer_words reducers = spaced (length reducers) ++ flat_map reducer_word reducers

-- the line of a coflow in the trace: id, arrival, mappers, reducers
abbrev pub coflow_line : MadeCoflow → List ℕ
coflow_line c = decimal c.id ++ spaced c.arrival ++ mapper_words c.mappers ++ reducer_words c.reducers

-- the trace: a line for the 150 ports and 200 coflows, and then the line of each coflow
abbrev pub trace_text : List MadeCoflow → List ℕ
trace_text coflows = text_of (codes "150 200" ∷ map coflow_line coflows)

-- the line of a coflow in the weights: id, weight
abbrev pub weight_line : MadeCoflow → List ℕ
weight_line c = decimal c.id ++ spaced c.weight

-- the weights: the line of each coflow
abbrev pub weights_text : List MadeCoflow → List ℕ
weights_text coflows = text_of (map weight_line coflows)

-- The texts of trace and weights, and the instance that they give.
use Rattle.std.specs.Prelude.{◌≡◌, ℕ, ◌≤◌, List, All, Option, Some, None, IfSome, length, replicate}
use Rattle.coflow_units.specs.declared.limits.TheConstants.{MAX_TEXT, MAX_WEIGHT}
use Rattle.coflow_units.specs.declared.trace.CoflowLine.{CoflowLine}
use Rattle.coflow_units.specs.declared.trace.Trace.{Trace}
use Rattle.coflow_units.specs.Flows.{IsDistinct}
use Rattle.coflow_units.specs.Trace.{IsTrace}
use Rattle.flow_table.specs.Table.{IsTable, IsTableOf, TableFacts}
use Rattle.outside.specs.Shelf.{Told, bytes_of}
use Rattle.text_fields.specs.Checks.{first_fault}
use Rattle.trace_reader.specs.Trace.{trace_checks, trace_of}
use Rattle.weights.specs.Weights.{text_checks, weights_of}

-- the text is that of a trace: it is short, and all its checks hold
pub record IsTraceText (text : List ℕ) : Type 0 where
  pub short : length text ≤ MAX_TEXT
  pub passes : first_fault (trace_checks text) ≡ None

-- each coflow has weight 1 where there is no file of weights, and else the weights are those of a text of weights for
-- these coflows
abbrev pub GiveWeights : Option (List ℕ) → List CoflowLine → List ℕ → Type 0
GiveWeights None coflows weights = weights ≡ replicate (length coflows) 1
GiveWeights (Some text) coflows weights =
    (length text ≤ MAX_TEXT) × (first_fault (text_checks text coflows) ≡ None) × (weights ≡ weights_of text coflows)

-- the text of a trace, that of weights where there is one, and the megabytes of a unit give the table of flows and the
-- weights
pub record Gives (trace : List ℕ) (file : Option (List ℕ)) (unit : ℕ) (table : TableFacts) (weights : List ℕ) :
    Type 0 where
  pub trace_text : IsTraceText trace
  pub weights_are : GiveWeights file (trace_of trace).coflows weights
  pub table_is : IsTableOf (trace_of trace) unit table

-- the bytes of a file, where a name is given
abbrev pub bytes_if : Told → Option (List ℕ) → Option (List ℕ)
bytes_if told None = None
bytes_if told (Some name) = Some (bytes_of told name)

-- A table whose coflows differ by their ids, and a weight from 1 to 2^32 for each of its coflows. Where the bytes of the files are told, those under the
-- name of a trace and under that of weights, where one is given, give them.
pub record IsInput (told : Option Told) (trace : List ℕ) (file : Option (List ℕ)) (unit : ℕ) (table : TableFacts)
    (weights : List ℕ) : Type 0 where
  pub table_fits : IsTable table
  pub ids : IsDistinct table.ids
  pub count : length weights ≡ length table.ids
  pub least : All (λ w. 1 ≤ w) weights
  pub most : All (λ w. w ≤ MAX_WEIGHT) weights
  pub gives : IfSome told (λ t. Gives (bytes_of t trace) (bytes_if t file) unit table weights)

-- a trace that was read, where the bytes under its name are told: they are its text
pub record IsTraceOf (told : Option Told) (name : List ℕ) (trace : Trace) : Type 0 where
  pub fits : IsTrace trace
  pub reads : IfSome told (λ t. IsTraceText (bytes_of t name) × (trace ≡ trace_of (bytes_of t name)))

-- a weight from 1 to 2^32 for each coflow, where the bytes under the name are told: they give them
pub record IsWeightsOf (told : Option Told) (file : Option (List ℕ)) (coflows : List CoflowLine)
    (weights : List ℕ) : Type 0 where
  pub count : length weights ≡ length coflows
  pub least : All (λ w. 1 ≤ w) weights
  pub most : All (λ w. w ≤ MAX_WEIGHT) weights
  pub given : IfSome told (λ t. GiveWeights (bytes_if t file) coflows weights)

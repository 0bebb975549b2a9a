-- The weights that a file gives to the coflows of a trace.
use Rattle.std.specs.Prelude.{◌≡◌, ℕ, ◌==◌, List, [], ◌∷◌, if◌then◌else◌, map, nat_eq}
use Rattle.std.specs.List.{list_any}
use Rattle.coflow_units.specs.declared.trace.CoflowLine.{CoflowLine}
use Rattle.coflow_units.specs.Trace.{ids_of}
use Rattle.text_fields.specs.Checks.{Check}
use Rattle.text_fields.specs.Fields.{Text}
use Rattle.text_fields.specs.Lines.{Line, lines_of}
use Rattle.weights.specs.Checks.{id_of, lines_checks, weight_in}
use Rattle.weights.specs.declared.fault.WeightsFault.{WeightsFault}

-- The checks of a whole text over these coflows, in reading order.
abbrev pub text_checks : Text → List CoflowLine → List (Check WeightsFault)
text_checks text coflows = lines_checks (ids_of coflows) [] (lines_of text)

-- The weight of an id is that of the line that has it, and 1 where no line has it.
abbrev pub weight_of : List Line → ℕ → ℕ
weight_of [] id = 1
weight_of (line ∷ lines) id = if id == id_of line then weight_in line else weight_of lines id

-- The weight of each coflow, by number.
abbrev pub weights_of : Text → List CoflowLine → List ℕ
weights_of text coflows = map (λ (x : CoflowLine). weight_of (lines_of text) x.id) coflows

-- Two lists have the same ids.
abbrev pub IsSameIds : List ℕ → List ℕ → Type 0
IsSameIds xs ys = (n : ℕ) → list_any (nat_eq n) xs ≡ list_any (nat_eq n) ys

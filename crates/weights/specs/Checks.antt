-- The checks of a weights file, in reading order.
use Rattle.std.specs.Prelude.{ℕ, ◌^◌, ◌==◌, ◌&&◌, nat_le, nat_eq, Bool, true, false, not, List, [], ◌∷◌, ◌++◌, Result, length, drop}
use Rattle.std.specs.List.{list_any}
use Rattle.coflow_units.specs.declared.quantity.Quantity.TheVariants as quantity
use Rattle.text_fields.specs.Checks.{AnswersChecks, Check}
use Rattle.text_fields.specs.Fields.{Text, field_at}
use Rattle.text_fields.specs.Lines.{Line, number_in_field}
use Rattle.text_fields.specs.Numbers.{capped, is_number, number}
use Rattle.weights.specs.declared.fault.WeightsFault.{WeightsFault}
use Rattle.weights.specs.declared.fault.WeightsFault.TheVariants as fault

-- The first field of a line is the id of a coflow.
abbrev pub id_of : Line → ℕ
id_of line = number_in_field 0 line

-- The second field of a line is a weight.
abbrev pub weight_in : Line → ℕ
weight_in line = number_in_field 1 line

-- The number is one of these ids.
abbrev pub is_known : List ℕ → ℕ → Bool
is_known ids n = list_any (nat_eq n) ids

-- The checks of an id: its form, and that the trace has it.
abbrev pub id_checks : List ℕ → ℕ → Text → List (Check WeightsFault)
id_checks ids line field =
    (is_number field, fault.BadLine line 1)
    ∷ (is_known ids (number field), fault.UnknownId line (capped (number field)))
    ∷ []

-- The check that no earlier line has the id.
abbrev pub fresh_checks : List ℕ → ℕ → Text → List (Check WeightsFault)
fresh_checks earlier line field =
    (not (list_any (nat_eq (number field)) earlier), fault.DuplicateId line (number field)) ∷ []

-- The checks of a weight: its form, and its range from 1 to 2^32.
abbrev pub weight_checks : ℕ → Text → List (Check WeightsFault)
weight_checks line field =
    (is_number field, fault.BadLine line 2)
    ∷ (
      nat_le 1 (number field) && nat_le (number field) (2 ^ 32),
      fault.Limit line quantity.Weight (capped (number field)),
    )
    ∷ []

-- The check that a line has no third field.
abbrev pub end_checks : Line → List (Check WeightsFault)
end_checks line = (length (drop 2 line.texts) == 0, fault.BadLine line.number 3) ∷ []

-- The checks of a line, where the trace has these ids and the lines before it have the earlier ones.
abbrev pub line_checks : List ℕ → List ℕ → Line → List (Check WeightsFault)
line_checks ids earlier line =
    id_checks ids line.number (field_at line.texts 0)
    ++ (fresh_checks earlier line.number (field_at line.texts 0)
    ++ (weight_checks line.number (field_at line.texts 1)
    ++ end_checks line))

-- The checks of the first line, and then those of the others, which have its id among the earlier ones.
abbrev pub lines_checks : List ℕ → List ℕ → List Line → List (Check WeightsFault)
lines_checks ids earlier [] = []
lines_checks ids earlier (line ∷ lines) = line_checks ids earlier line ++
    lines_checks ids (earlier ++ (id_of line ∷ [])) lines

-- Memory ran out.
abbrev pub is_no_memory : WeightsFault → Bool
is_no_memory fault.NoMemory = true
is_no_memory f = false

-- All checks hold and the value is as said, or the fault is that of the first check that fails, or memory ran out.
abbrev pub Answers : {V : Type 0} → List (Check WeightsFault) → (V → Type 0) → Result V WeightsFault → Type 0
Answers checks P result = AnswersChecks is_no_memory checks P result

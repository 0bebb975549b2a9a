-- Checks of the fields of a line.
use Rattle.std.specs.Prelude.{ℕ, ◌+◌, ◌&&◌, nat_le, Bool, true, false, List, [], ◌∷◌, Result, map}
use Rattle.std.specs.List.{flat_map, range_with_len}
use Rattle.coflow_units.specs.declared.quantity.Quantity.{Quantity}
use Rattle.text_fields.specs.Checks.{AnswersChecks, Check}
use Rattle.text_fields.specs.Fields.{Text, field_at}
use Rattle.text_fields.specs.Numbers.{capped, is_number, number}
use Rattle.trace_reader.specs.declared.fault.TraceFault.{TraceFault}
use Rattle.trace_reader.specs.declared.fault.TraceFault.TheVariants as fault

-- Memory ran out.
abbrev pub is_no_memory : TraceFault → Bool
is_no_memory fault.NoMemory = true
is_no_memory f = false

-- All checks hold and the value is as said, or the fault is that of the first check that fails, or memory ran out.
abbrev pub Answers : {V : Type 0} → List (Check TraceFault) → (V → Type 0) → Result V TraceFault → Type 0
Answers checks P result = AnswersChecks is_no_memory checks P result

-- The number of a field is from least to most.
abbrev pub range : ℕ → Quantity → ℕ → ℕ → Text → Check TraceFault
range line which least most field =
    (nat_le least (number field) && nat_le (number field) most, fault.Limit line which (capped (number field)))

-- Field k of a line is a number from least to most.
abbrev pub number_checks : ℕ → ℕ → Quantity → ℕ → ℕ → Text → List (Check TraceFault)
number_checks line k which least most field =
    (is_number field, fault.BadLine line k) ∷ range line which least most field ∷ []

-- The checks of so many fields of a line, the first of which is its field k.
abbrev pub each : (ℕ → Text → List (Check TraceFault)) → ℕ → List Text → ℕ → List (Check TraceFault)
each checks k texts count = flat_map (λ j. checks (k + j) (field_at texts j)) (range_with_len 0 count)

-- What so many fields say.
abbrev pub values : {X : Type 0} → (Text → X) → List Text → ℕ → List X
values value texts count = map (λ j. value (field_at texts j)) (range_with_len 0 count)

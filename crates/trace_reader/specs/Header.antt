-- The first line with fields.
use Rattle.std.specs.Prelude.{◌≡◌, ℕ, ◌==◌, ◌&&◌, Bool, true, false, Option, Some, None, List, [], ◌∷◌, length}
use Rattle.coflow_units.specs.declared.limits.TheConstants.{MAX_COFLOWS, MAX_PORTS}
use Rattle.coflow_units.specs.declared.quantity.Quantity.TheVariants as quantity
use Rattle.text_fields.specs.Checks.{Check}
use Rattle.text_fields.specs.Fields.{field_at}
use Rattle.text_fields.specs.Lines.{Line, number_in_field}
use Rattle.text_fields.specs.Numbers.{capped, is_number}
use Rattle.trace_reader.specs.Checks.{range}
use Rattle.trace_reader.specs.declared.fault.TraceFault.{TraceFault}
use Rattle.trace_reader.specs.declared.fault.TraceFault.TheVariants as fault

-- The line has two fields, both numbers.
abbrev pub is_header : Line → Bool
is_header line = is_number (field_at line.texts 0) && (is_number (field_at line.texts 1) && (length line.texts == 2))

-- The first field of the header is the number of ports.
abbrev pub ports_of : Line → ℕ
ports_of line = number_in_field 0 line

-- The second field of the header is the number of coflows.
abbrev pub coflow_count : Line → ℕ
coflow_count line = number_in_field 1 line

-- The checks of the header: its form, then the range of the ports, then that of the coflows.
abbrev pub header_checks : Line → List (Check TraceFault)
header_checks line =
    (is_header line, fault.BadHeader)
    ∷ range line.number quantity.Ports 1 MAX_PORTS (field_at line.texts 0)
    ∷ range line.number quantity.Coflows 0 MAX_COFLOWS (field_at line.texts 1)
    ∷ []

-- The line has not two numbers, or these are the two, capped.
abbrev pub HasTwo : Line → Option (ℕ × ℕ) → Type 0
HasTwo line None = is_header line ≡ false
HasTwo line (Some v) = (is_header line ≡ true) × (v.0 ≡ capped (ports_of line)) × (v.1 ≡ capped (coflow_count line))

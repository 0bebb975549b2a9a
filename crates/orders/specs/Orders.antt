-- The order that a text gives to coflows.
use Rattle.std.specs.Prelude.{ℕ, List, [], ◌++◌, length, map}
use Rattle.coflow_units.specs.Grants.{place_in}
use Rattle.text_fields.specs.Checks.{Check}
use Rattle.text_fields.specs.Fields.{Text}
use Rattle.text_fields.specs.Lines.{Line, lines_of}
use Rattle.orders.specs.Checks.{count_checks, id_of, lines_checks}
use Rattle.orders.specs.declared.fault.OrderFault.{OrderFault}

-- The checks of a whole text over coflows of these ids, in reading order: line by line, and that no coflow is missing.
abbrev pub text_checks : Text → List ℕ → List (Check OrderFault)
text_checks text ids = lines_checks ids [] (lines_of text) ++ count_checks (length (lines_of text)) (length ids)

-- The numbers of the coflows of the lines, first line first.
abbrev pub order_in : Text → List ℕ → List ℕ
order_in text ids = map (λ (line : Line). place_in ids (id_of line)) (lines_of text)

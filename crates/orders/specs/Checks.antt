-- The checks of an order file, in reading order.
use Rattle.std.specs.Prelude.{ℕ, ◌==◌, Bool, true, false, not, List, [], ◌∷◌, ◌++◌, Result, length, drop, nat_eq}
use Rattle.std.specs.List.{list_any}
use Rattle.text_fields.specs.Checks.{AnswersChecks, Check}
use Rattle.text_fields.specs.Fields.{Text, field_at}
use Rattle.text_fields.specs.Lines.{Line, number_in_field}
use Rattle.text_fields.specs.Numbers.{capped, is_number, number}
use Rattle.orders.specs.declared.fault.OrderFault.{OrderFault}
use Rattle.orders.specs.declared.fault.OrderFault.TheVariants as fault

-- The first field of a line is the id of a coflow.
abbrev pub id_of : Line → ℕ
id_of line = number_in_field 0 line

-- The checks of an id: its form, that a coflow has it, and that no earlier line has it.
abbrev pub id_checks : List ℕ → List ℕ → ℕ → Text → List (Check OrderFault)
id_checks ids earlier line field =
    (is_number field, fault.BadLine line 1)
    ∷ (list_any (nat_eq (number field)) ids, fault.UnknownId line (capped (number field)))
    ∷ (not (list_any (nat_eq (number field)) earlier), fault.DuplicateId line (number field))
    ∷ []

-- The check that a line has no second field.
abbrev pub end_checks : Line → List (Check OrderFault)
end_checks line = (length (drop 1 line.texts) == 0, fault.BadLine line.number 2) ∷ []

-- The checks of a line, where the coflows have these ids and the lines before it have the earlier ones.
abbrev pub line_checks : List ℕ → List ℕ → Line → List (Check OrderFault)
line_checks ids earlier line = id_checks ids earlier line.number (field_at line.texts 0) ++ end_checks line

-- The checks of the first line, and then those of the others, which have its id among the earlier ones.
abbrev pub lines_checks : List ℕ → List ℕ → List Line → List (Check OrderFault)
lines_checks ids earlier [] = []
lines_checks ids earlier (line ∷ lines) = line_checks ids earlier line ++
    lines_checks ids (earlier ++ (id_of line ∷ [])) lines

-- The check at the end: there are as many lines as coflows.
abbrev pub count_checks : ℕ → ℕ → List (Check OrderFault)
count_checks have want = (have == want, fault.Missing have want) ∷ []

-- Memory ran out.
abbrev pub is_no_memory : OrderFault → Bool
is_no_memory fault.NoMemory = true
is_no_memory f = false

-- All checks hold and the value is as said, or the fault is that of the first check that fails, or memory ran out.
abbrev pub Answers : {V : Type 0} → List (Check OrderFault) → (V → Type 0) → Result V OrderFault → Type 0
Answers checks P result = AnswersChecks is_no_memory checks P result

-- The checks of a script, in reading order.
use Rattle.std.specs.Prelude.{ℕ, ◌+◌, ◌==◌, ◌&&◌, nat_le, is_some, Bool, true, false, List, [], ◌∷◌, ◌++◌, Option, Some, None}
use Rattle.std.specs.Prelude.{Result, length}
use Rattle.coflow_units.specs.declared.limits.TheConstants.{MAX_CLIENTS, MAX_COMMANDS, MAX_WEIGHT}
use Rattle.coflow_units.specs.declared.quantity.Quantity.TheVariants as quantity
use Rattle.text_fields.specs.Checks.{AnswersChecks, Check}
use Rattle.text_fields.specs.Fields.{Text, field_at}
use Rattle.text_fields.specs.Lines.{Line, lines_of, without_first}
use Rattle.text_fields.specs.Numbers.{capped, is_number, number}
use Rattle.workload.specs.Operands.{coflow_with}
use Rattle.workload.specs.Words.{end_of, word_of}
use Rattle.workload.specs.declared.fault.ScriptFault.{ScriptFault}
use Rattle.workload.specs.declared.fault.ScriptFault.TheVariants as fault
use Rattle.workload.specs.declared.word.Word.{Word}
use Rattle.workload.specs.declared.word.Word.TheVariants.{Register, Withdraw, Publish, Pull, Reweigh}
use Rattle.workload.specs.declared.word.End.{End}

-- The check that no field is left, of which the next one would have this number.
abbrev pub end_checks : Line → ℕ → List (Check ScriptFault)
end_checks line field = (length line.texts == 0, fault.Bad line.number field) ∷ []

-- The checks of a client: its form, and its range.
abbrev pub client_checks : ℕ → Text → List (Check ScriptFault)
client_checks line field =
    (is_number field, fault.Bad line 1)
    ∷ (
      nat_le 1 (number field) && nat_le (number field) MAX_CLIENTS,
      fault.Limit quantity.Clients (capped (number field)),
    )
    ∷ []

-- The checks of an id: its form, and that a coflow has it.
abbrev pub id_checks : List ℕ → ℕ → Text → List (Check ScriptFault)
id_checks ids line field =
    (is_number field, fault.Bad line 3) ∷ (is_some (coflow_with (number field) ids), fault.Bad line 3) ∷ []

-- The checks of a weight: its form, and its range.
abbrev pub weight_checks : ℕ → Text → List (Check ScriptFault)
weight_checks line field =
    (is_number field, fault.Bad line 4)
    ∷ (nat_le 1 (number field) && nat_le (number field) MAX_WEIGHT, fault.Limit quantity.Weight (capped (number field)))
    ∷ []

-- The checks of a coflow alone behind the word.
abbrev pub coflow_checks : List ℕ → Line → List (Check ScriptFault)
coflow_checks ids line = id_checks ids line.number (field_at line.texts 0) ++ end_checks (without_first line) 4

-- The checks of a coflow and a weight behind the word.
abbrev pub weighing_checks : List ℕ → Line → List (Check ScriptFault)
weighing_checks ids line =
    id_checks ids line.number (field_at line.texts 0)
    ++ (weight_checks line.number (field_at line.texts 1) ++ end_checks (without_first (without_first line)) 5)

-- The checks of what stands behind a word.
abbrev pub operand_checks : List ℕ → Word → Line → List (Check ScriptFault)
operand_checks ids Register line = coflow_checks ids line
operand_checks ids Withdraw line = coflow_checks ids line
operand_checks ids Publish line = end_checks line 3
operand_checks ids Pull line = coflow_checks ids line
operand_checks ids Reweigh line = weighing_checks ids line

-- The check of a word, and those of what stands behind it.
abbrev pub word_checks : List ℕ → Option Word → Line → List (Check ScriptFault)
word_checks ids None line = (false, fault.Bad line.number 2) ∷ []
word_checks ids (Some word) line = operand_checks ids word line

-- The checks of what stands behind a client.
abbrev pub ask_checks : List ℕ → Line → List (Check ScriptFault)
ask_checks ids line = word_checks ids (word_of (field_at line.texts 0)) (without_first line)

-- The checks of a line: the end of a round stands alone; else there are a client and what it asks.
abbrev pub ended_checks : List ℕ → Option End → Line → List (Check ScriptFault)
ended_checks ids (Some end) line = end_checks (without_first line) 2
ended_checks ids None line = client_checks line.number (field_at line.texts 0) ++ ask_checks ids (without_first line)

-- The checks of a line.
abbrev pub line_checks : List ℕ → Line → List (Check ScriptFault)
line_checks ids line = ended_checks ids (end_of (field_at line.texts 0)) line

-- The check that so many lines stand before this one and that it is not one too many.
abbrev pub count_checks : ℕ → List (Check ScriptFault)
count_checks count = (nat_le (count + 1) MAX_COMMANDS, fault.Limit quantity.Commands (MAX_COMMANDS + 1)) ∷ []

-- The checks of the lines, where so many stand before them.
abbrev pub lines_checks : List ℕ → ℕ → List Line → List (Check ScriptFault)
lines_checks ids count [] = []
lines_checks ids count (line ∷ lines) =
    line_checks ids line ++ (count_checks count ++ lines_checks ids (count + 1) lines)

-- The checks of a whole text over the coflows of these ids, in reading order.
abbrev pub text_checks : List ℕ → Text → List (Check ScriptFault)
text_checks ids text = lines_checks ids 0 (lines_of text)

-- Memory ran out.
abbrev pub is_no_memory : ScriptFault → Bool
is_no_memory fault.NoMemory = true
is_no_memory f = false

-- All checks hold and the value is as said, or the fault is that of the first check that fails, or memory ran out.
abbrev pub Answers : {V : Type 0} → List (Check ScriptFault) → (V → Type 0) → Result V ScriptFault → Type 0
Answers checks P result = AnswersChecks is_no_memory checks P result

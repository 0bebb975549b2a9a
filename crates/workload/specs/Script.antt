-- The script that a text gives.
use Rattle.std.specs.Prelude.{ℕ, List, [], ◌∷◌, Option, Some, None, false, max}
use Rattle.text_fields.specs.Fields.{Text, field_at}
use Rattle.text_fields.specs.Lines.{Line, lines_of, number_in_field, without_first}
use Rattle.workload.specs.Operands.{coflow_in, weight_in}
use Rattle.workload.specs.Words.{end_of, runs_at, word_of}
use Rattle.workload.specs.declared.script.Asked.{Asked}
use Rattle.workload.specs.declared.script.Asked.TheVariants as asked
use Rattle.workload.specs.declared.script.Round.{Round}
use Rattle.workload.specs.declared.script.Script.{Script}
use Rattle.workload.specs.declared.script.ScriptLine.{ScriptLine}
use Rattle.workload.specs.declared.line.Step.{Step}
use Rattle.workload.specs.declared.line.Step.TheVariants.{Ask, Ends}
use Rattle.workload.specs.declared.word.End.{End}
use Rattle.workload.specs.declared.word.Word.{Word}
use Rattle.workload.specs.declared.word.Word.TheVariants.{Register, Withdraw, Publish, Pull, Reweigh}

-- What a word asks over what stands behind it. A field that is no word asks for nothing, and is refused.
abbrev pub asked_by : List ℕ → Option Word → Line → Asked
asked_by ids (Some Register) line = asked.Register (coflow_in ids line)
asked_by ids (Some Withdraw) line = asked.Withdraw (coflow_in ids line)
asked_by ids (Some Publish) line = asked.Publish
asked_by ids (Some Pull) line = asked.Pull (coflow_in ids line)
asked_by ids (Some Reweigh) line = asked.Reweigh (coflow_in ids line) (weight_in line)
asked_by ids None line = asked.Publish

-- What stands behind a client asks.
abbrev pub asked_of : List ℕ → Line → Asked
asked_of ids line = asked_by ids (word_of (field_at line.texts 0)) (without_first line)

-- What a line adds, by whether it ends a round.
abbrev pub step_by : List ℕ → Option End → Line → Step
step_by ids (Some end) line = Ends end
step_by ids None line =
    Ask record {
      line = line.number;
      client = number_in_field 0 line;
      asked = asked_of ids (without_first line);
    }

-- What a line adds to the script.
abbrev pub step_of : List ℕ → Line → Step
step_of ids line = step_by ids (end_of (field_at line.texts 0)) line

-- A command goes before those of the first round, and makes a round where there is none.
abbrev pub put_first : ScriptLine → List Round → List Round
put_first x [] = record { lines = x ∷ []; runs = false } ∷ []
put_first x (round ∷ rounds) = record { lines = x ∷ round.lines; runs = round.runs } ∷ rounds

-- A step before the rounds of the lines behind it.
abbrev pub put_step : Step → List Round → List Round
put_step (Ask x) rounds = put_first x rounds
put_step (Ends end) rounds = record { lines = []; runs = runs_at end } ∷ rounds

-- The rounds of lines: each command belongs to the first end of a round behind it, and to a last round where there is none.
abbrev pub rounds_of : List ℕ → List Line → List Round
rounds_of ids [] = []
rounds_of ids (line ∷ lines) = put_step (step_of ids line) (rounds_of ids lines)

-- The client of a step, or 0.
abbrev pub client_of : Step → ℕ
client_of (Ask x) = x.client
client_of (Ends end) = 0

-- The greatest client of lines, or 0.
abbrev pub clients_of : List ℕ → List Line → ℕ
clients_of ids [] = 0
clients_of ids (line ∷ lines) = max (client_of (step_of ids line)) (clients_of ids lines)

-- The script of a text over the coflows of these ids.
abbrev pub script_of : List ℕ → Text → Script
script_of ids text = record { clients = clients_of ids (lines_of text); rounds = rounds_of ids (lines_of text) }

-- The text of a trace.
use Rattle.std.specs.Prelude.{ℕ, false, nat_le, nat_lt, List, [], ◌∷◌, ◌++◌, length, map}
use Rattle.coflow_units.specs.declared.trace.Trace.{Trace}
use Rattle.text_fields.specs.Checks.{Check}
use Rattle.text_fields.specs.Fields.{Text}
use Rattle.text_fields.specs.Lines.{Line, lines_of}
use Rattle.trace_reader.specs.Coflow.{coflow_of, id_of, line_checks}
use Rattle.trace_reader.specs.Header.{coflow_count, header_checks, ports_of}
use Rattle.trace_reader.specs.declared.fault.TraceFault.{TraceFault}
use Rattle.trace_reader.specs.declared.fault.TraceFault.TheVariants as fault

-- The checks of the lines of coflows, where the lines before them have the earlier ids, and the header says how many
-- lines there are: a line is none too many, and then its fields are as they should be.
abbrev pub coflow_checks : ℕ → ℕ → List ℕ → List Line → List (Check TraceFault)
coflow_checks ports count earlier [] = []
coflow_checks ports count earlier (line ∷ lines) =
    (nat_lt (length earlier) count, fault.Extra line.number)
    ∷ (line_checks ports earlier line ++ coflow_checks ports count (earlier ++ (id_of line ∷ [])) lines)

-- The check that so many lines of coflows are as many as the header says.
abbrev pub missing : ℕ → ℕ → Check TraceFault
missing have want = (nat_le want have, fault.Missing have want)

-- The checks of the lines with fields: the header, the lines of coflows, and at the end that none is missing.
abbrev pub lines_checks : List Line → List (Check TraceFault)
lines_checks [] = (false, fault.BadHeader) ∷ []
lines_checks (header ∷ lines) =
    header_checks header
    ++ (coflow_checks (ports_of header) (coflow_count header) [] lines
    ++ (missing (length lines) (coflow_count header) ∷ []))

-- What the lines with fields say.
abbrev pub lines_trace : List Line → Trace
lines_trace [] = record { number = 0; coflows = [] }
lines_trace (header ∷ lines) = record { number = ports_of header; coflows = map coflow_of lines }

-- The checks of a whole text, in reading order.
abbrev pub trace_checks : Text → List (Check TraceFault)
trace_checks text = lines_checks (lines_of text)

-- What a text says, where all its checks hold.
abbrev pub trace_of : Text → Trace
trace_of text = lines_trace (lines_of text)

-- The fields of each of the lines, without the lines' numbers.
abbrev pub fields_of_lines : List Line → List (List Text)
fields_of_lines lines = map (λ (line : Line). line.texts) lines

-- The fields of each line of a text that has fields.
abbrev pub fields_of : Text → List (List Text)
fields_of text = fields_of_lines (lines_of text)

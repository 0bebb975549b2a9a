-- The lines of a text of ended lines.
use Rattle.std.proofs.Common.{◌≡◌, ℕ, ◌+◌, List, [], ◌∷◌, ◌++◌, true, refl, ap, append_assoc, ◌∙◌}
use Rattle.std.proofs.lemmas.List.Splits.{slice_split_at}
use Rattle.text_fields.specs.Fields.{Text, fields, is_full}
use Rattle.text_fields.specs.Lines.{Line, is_line_feed, lines_from, numbered}
use Rattle.coflow_units.specs.Text.{text_of}
use Rattle.workload.proofs.LineWords.{AreWords, IsWord, Lacks, behind_spaces, words_are_fields, words_lack_feed}

-- a line has fields, and no line feed
abbrev pub IsFullLine : Text → Type 0
IsFullLine line = (is_full (fields line) ≡ true) × Lacks is_line_feed line

abbrev pub AreFullLines : List Text → Type 0
AreFullLines [] = Unit {0}
AreFullLines (line ∷ lines) = IsFullLine line × AreFullLines lines

-- these lines are the lines with fields
pub lines_are : (n : ℕ) (lines : List Text) → AreFullLines lines → lines_from n (text_of lines) ≡ numbered n lines
lines_are n [] h = refl
lines_are n (line ∷ lines) h =
    rw (append_assoc line (10 ∷ []) (text_of lines), slice_split_at is_line_feed line 10 (text_of lines) h.0.1 refl, h.0.0)
    (ap (λ (l : List Line). record { number = n; texts = fields line } ∷ l) (lines_are (n + 1) lines h.1))

-- a line of words has fields, and no line feed
pub words_are_full : (line word : Text) (words : List Text) → line ≡ word ++ behind_spaces words → IsWord word → AreWords words → IsFullLine line
words_are_full line word words e h hs =
    let f : fields line ≡ word ∷ words = ap fields e ∙ words_are_fields word words h hs in
    (rw f refl, rw e (words_lack_feed word words h hs))

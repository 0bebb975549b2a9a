-- The lines of a text.
use Rattle.std.specs.Prelude.{◌≡◌, ℕ, ◌+◌, ◌==◌, Bool, List, [], ◌∷◌, Option, Some, None, length, drop, true, ◌^◌, ◌<◌}
use Rattle.std.specs.List.{filter, slice_split}
use Rattle.text_fields.specs.Fields.{Text, field_at, fields, is_full}
use Rattle.text_fields.specs.Numbers.{number}

-- A line is cut off by a line feed.
abbrev pub is_line_feed : ℕ → Bool
is_line_feed b = b == 10

-- The number of a line, and fields of it.
pub record Line : Type 0 where
  pub number : ℕ
  pub texts : List Text

-- The line has a field. A line without fields is blank.
abbrev pub has_fields : Line → Bool
has_fields line = is_full line.texts

-- The fields of each line, where the first line has number n and the others count on from it.
abbrev pub numbered : ℕ → List Text → List Line
numbered n [] = []
numbered n (line ∷ lines) = record { number = n; texts = fields line } ∷ numbered (n + 1) lines

-- The lines of a text that have fields, where its first line has number n. A blank line is counted.
abbrev pub lines_from : ℕ → Text → List Line
lines_from n text = filter has_fields (numbered n (slice_split is_line_feed text))

-- The lines of a text that have fields, counted from 1.
abbrev pub lines_of : Text → List Line
lines_of text = lines_from 1 text

-- The number that field k of a line spells, from 0.
abbrev pub number_in_field : ℕ → Line → ℕ
number_in_field k line = number (field_at line.texts k)

-- The line without its first field.
abbrev pub without_first : Line → Line
without_first line = record { number = line.number; texts = drop 1 line.texts }

-- The first line is taken and the others are left, or there is none.
abbrev pub TakesLine : List Line → List Line → Option Line → Type 0
TakesLine old new None = (old ≡ []) × (new ≡ [])
TakesLine old new (Some line) = old ≡ line ∷ new

-- A value tells the first line with fields, its number and the text behind it, or no line of the text has fields.
abbrev pub CutsLine : {V : Type 0} → (V → ℕ) → (V → Text) → (V → Text) → ℕ → Text → Option V → Type 0
CutsLine number line rest n text None = lines_from n text ≡ []
CutsLine number line rest n text (Some v) = (is_full (fields (line v)) ≡ true)
    × (lines_from n text ≡ record { number = number v; texts = fields (line v) } ∷ lines_from (number v + 1) (rest v))
    × (number v + 1 + length (rest v) < 2 ^ 32)

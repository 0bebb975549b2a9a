-- The fields of a line.
use Rattle.std.specs.Prelude.{false, true, ℕ, ◌==◌, ◌||◌, Bool, List, [], ◌∷◌}
use Rattle.std.specs.List.{filter, slice_index_or, slice_split}

-- A text is a list of bytes.
abbrev pub Text : Type 0
Text = List ℕ

-- A blank is a tab, a carriage return or a space.
abbrev pub is_blank : ℕ → Bool
is_blank b = (b == 9) || ((b == 13) || (b == 32))

-- The list has an element.
abbrev pub is_full : {X : Type 0} → List X → Bool
is_full [] = false
is_full (x ∷ xs) = true

-- The fields of a line are the pieces between its blanks that are not empty: the longest runs of other bytes.
abbrev pub fields : Text → List Text
fields line = filter is_full (slice_split is_blank line)

-- The field at place k, from 0, or the empty text where there is none. No field is empty.
abbrev pub field_at : List Text → ℕ → Text
field_at texts k = slice_index_or texts k []

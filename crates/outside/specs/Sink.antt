-- What a sink takes.
use Rattle.std.specs.Prelude.{◌≡◌, ℕ, ◌<◌, ◌++◌, List, Option, Some, None, Result, Ok, Err, length, take}

-- one write, where the sink tells what it took: the first bytes of the piece were appended, and at a fault nothing was
abbrev pub Takes : {E : Type 0} → Option (List ℕ) → Option (List ℕ) → List ℕ → Result ℕ E → Type 0
Takes None new piece result = new ≡ None
Takes (Some old) new piece (Ok n) = new ≡ Some (old ++ take n piece)
Takes (Some old) new piece (Err e) = new ≡ Some old

-- a whole text, where the sink tells what it took: the text was appended, and at a fault a beginning of it that is
-- shorter
abbrev pub TakesText : {X E : Type 0} → Option (List ℕ) → Option (List ℕ) → List ℕ → Result X E → Type 0
TakesText None new text result = new ≡ None
TakesText (Some old) new text (Ok x) = new ≡ Some (old ++ text)
TakesText (Some old) new text (Err e) = (n : ℕ) × (n < length text) × (new ≡ Some (old ++ take n text))

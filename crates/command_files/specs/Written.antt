-- What was written to the sink.
use Rattle.std.specs.Prelude.{◌≡◌, ℕ, ◌<◌, ◌++◌, List, Option, Some, None, length, take}

-- where the sink tells what it took, the text was appended
abbrev pub Appends : Option (List ℕ) → Option (List ℕ) → List ℕ → Type 0
Appends None new text = Unit {0}
Appends (Some old) new text = new ≡ Some (old ++ text)

-- the same of a beginning of the text, which is shorter than the text
abbrev pub AppendsBeginning : Option (List ℕ) → Option (List ℕ) → List ℕ → Type 0
AppendsBeginning None new text = Unit {0}
AppendsBeginning (Some old) new text = (n : ℕ) × (n < length text) × (new ≡ Some (old ++ take n text))

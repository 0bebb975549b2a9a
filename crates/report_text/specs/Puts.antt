-- Bytes that are put into a piece, which goes to a sink whenever it is full.
use Rattle.std.specs.Prelude.{◌≡◌, ℕ, ◌<◌, ◌≤◌, ◌++◌, List, Option, Some, None, Result, Ok, Err, length, take}
use Rattle.outside.specs.Rose.{RoseOnce}

-- the count of faults stays at success, and rises by one at a fault
abbrev pub Faults : {X E : Type 0} → ℕ → ℕ → Result X E → Type 0
Faults old new (Ok x) = new ≡ old
Faults old new (Err e) = (old ≤ new) × RoseOnce old new

-- bytes were put behind those that waited in the piece: the sink took the first of them, where it tells what it takes,
-- and the others wait; at a fault the sink took a beginning of them that is shorter
abbrev pub Puts : {X E : Type 0} → Option (List ℕ) → Option (List ℕ) → List ℕ → List ℕ → List ℕ → Result X E → Type 0
Puts None new before after bytes result = new ≡ None
Puts (Some old) new before after bytes (Ok x) =
    (first : List ℕ) × (new ≡ Some (old ++ first)) × (first ++ after ≡ before ++ bytes)
Puts (Some old) new before after bytes (Err e) =
    (n : ℕ) × (n < length (before ++ bytes)) × (new ≡ Some (old ++ take n (before ++ bytes)))

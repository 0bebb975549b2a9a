-- How far a read to the end has come, and how far the write of a text has.
use Rattle.std.specs.Prelude.{◌≡◌, ℕ, ◌++◌, List, Option, Some, None}
use Rattle.outside.specs.declared.shelf.Place4.{Place4}
use Rattle.outside.specs.Shelf.{Told, Keeps, SameElsewhere}

-- the bytes were moved out of the place
pub record ReadsSoFar (old new : Told) (place : Place4) (bytes : List ℕ) : Type 0 where
  pub keeps : Keeps old new
  pub file_at : new.file_at ≡ old.file_at
  pub left : bytes ++ new.left place ≡ old.left place
  pub others_left : SameElsewhere place old.left new.left
  pub still : new.faults ≡ old.faults

abbrev pub ToldSoFar : Option Told → Option Told → Place4 → List ℕ → Type 0
ToldSoFar None new place bytes = new ≡ None
ToldSoFar (Some old) new place bytes = (t : Told) × (new ≡ Some t) × ReadsSoFar old t place bytes

-- the first bytes of the text were taken
abbrev pub TakenSoFar : Option (List ℕ) → Option (List ℕ) → List ℕ → Type 0
TakenSoFar None new beginning = new ≡ None
TakenSoFar (Some old) new beginning = new ≡ Some (old ++ beginning)

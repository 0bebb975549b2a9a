-- The curve of completed coflows, from the slots in which they are completed.
use Rattle.std.specs.Prelude.{◌≡◌, ℕ, ◌+◌, ◌<◌, leb, Bool, true, false, List, All, AllPairs, Contains, count_by, length}
use Rattle.std.specs.Prelude.{map, slice_index}
use Rattle.picture.specs.declared.value.Step.{Step}

-- how many coflows are completed by the end of the slot
abbrev pub done_by : List ℕ → ℕ → ℕ
done_by ends slot = count_by (λ end. leb end slot) ends

-- a coflow is completed in the slot, and so many are by its end
pub record IsStep (ends : List ℕ) (s : Step) : Type 0 where
  pub rises : Contains ends s.slot
  pub done_is : s.done ≡ done_by ends s.slot

-- each step is one, each slot in which a coflow is completed has one, and they ascend, each higher than the one before
pub record IsCurve (ends : List ℕ) (steps : List Step) : Type 0 where
  pub each_step : All (IsStep ends) steps
  pub all : (slot : ℕ) → Contains ends slot → Contains (map (λ (s : Step). s.slot) steps) slot
  pub ascending : AllPairs (λ (a : Step) (b : Step). a.slot < b.slot) steps
  pub higher : AllPairs (λ (a : Step) (b : Step). a.done < b.done) steps

-- of slots in order, the next one after the place is equal, or it is greater, if there is one
abbrev pub ComesAgain : List ℕ → ℕ → Bool → Type 0
ComesAgain ends place true = (place + 1 < length ends) × (slice_index ends (place + 1) ≡ slice_index ends place)
ComesAgain ends place false = place + 1 < length ends → slice_index ends place < slice_index ends (place + 1)

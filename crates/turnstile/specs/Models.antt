-- What contracts see of a turnstile, of its root and of a seat.
use Rattle.std.specs.Prelude.{◌≡◌, ℕ, ◌+◌, ◌<◌, ◌≤◌, Bool, true, false, List, [], ◌∷◌, ◌++◌, All, Contains, Option}
use Rattle.std.specs.Prelude.{Some}
use Rattle.atomic_table.specs.Seated.{TableId}
use Rattle.turnstile.specs.declared.view.Stage.{Stage}
use Rattle.turnstile.specs.declared.view.Stage.TheVariants.{Idle, Waiting, InTurn}
use Rattle.turnstile.specs.declared.view.Returned.{Returned}
use Rattle.turnstile.specs.Histories.{GoesOn, longer}

-- a turnstile: which one it is, and the setting of its value
pub record TurnstileModel (C : Type 0) : Type 0 where
  pub table : TableId
  pub setting : C

-- a seat: its turnstile, its number, whether it has the turn, the entries that it has seen, and the setting of the
-- value
pub record SeatModel (E C : Type 0) : Type 0 where
  pub table : TableId
  pub number : ℕ
  pub in_turn : Bool
  pub seen : List E
  pub setting : Option C

-- the root: the same without a number, how many seats it has made, and those that came back, the last one last
pub record RootModel (E C : Type 0) : Type 0 where
  pub table : TableId
  pub in_turn : Bool
  pub seen : List E
  pub made : ℕ
  pub back : List (Returned E)
  pub setting : Option C

abbrev pub is_in_turn : Stage → Bool
is_in_turn Idle = false
is_in_turn (Waiting t) = false
is_in_turn (InTurn t) = true

-- a seat that came back is known by its number and by what it had seen
abbrev pub handed_back : {E : Type 0} → ℕ → List E → Returned E
handed_back number seen = record { number = number; seen = seen }

module _ {E C : Type 0} where
  -- the root of a new turnstile
  abbrev pub first_root : TableId → C → RootModel E C
  first_root table c = record { table = table; in_turn = false; seen = []; made = 0; back = []; setting = Some c }

  -- a new seat has the next number, and has seen what the root had seen
  abbrev pub next_seat : RootModel E C → SeatModel E C
  next_seat root = record {
    table = root.table;
    number = root.made + 1;
    in_turn = false;
    seen = root.seen;
    setting = root.setting;
  }

  -- the root has seen what the seat had seen, and keeps that list with the seat's number
  abbrev pub takes_back : RootModel E C → SeatModel E C → RootModel E C
  takes_back root seat = record root {
    seen = longer root.seen seat.seen;
    back = root.back ++ handed_back seat.number seat.seen ∷ [];
  }

module _ {E : Type 0} where
  -- each number from 1 to this one is the number of a seat that came back
  abbrev pub EachCameBack : ℕ → List (Returned E) → Type 0
  EachCameBack made back = (number : ℕ) → 0 < number → number ≤ made →
      (p : Returned E) × Contains back p × (p.number ≡ number)

  -- the list goes on after what each seat that came back had seen, with no entry of its number
  abbrev pub GoesOnForEach : (E → ℕ) → List E → List (Returned E) → Type 0
  GoesOnForEach by list back = All (λ (p : Returned E). GoesOn by list p.number p.seen) back

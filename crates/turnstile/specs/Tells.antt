-- What becomes of the views at each step, and what the step tells the seat that takes it.
use Rattle.std.specs.Prelude.{◌≡◌, ◌≢◌, ℕ, ◌+◌, ◌≤◌, ◌%◌, List, [], ◌∷◌, ◌++◌, length, Option, Some, None}
use Rattle.atomic_table.specs.Table.{Me, Step}
use Rattle.turnstile.specs.declared.view.Stage.{Stage}
use Rattle.turnstile.specs.declared.view.Stage.TheVariants.{Idle, Waiting, InTurn}
use Rattle.turnstile.specs.declared.view.View.{View}
use Rattle.turnstile.specs.declared.view.Role.TheVariants.{Note, Seat}
use Rattle.turnstile.specs.Tickets.{number_of, IsRoot}
use Rattle.turnstile.specs.Histories.{GoesOn, Begins, AddsAtMostOne, NoneAbove, longer}
use Rattle.turnstile.specs.Models.{handed_back}

-- the slots that a seat holds between two calls
abbrev pub Holds : {T : Type 0} → Stage → List (ℕ × Option T) → Type 0
Holds Idle slots = slots ≡ []
Holds (Waiting t) slots = ⊥
Holds (InTurn t) slots = slots ≡ (0, None) ∷ []

-- the seat waits, and its ticket is this word
abbrev pub Has : Stage → ℕ → Type 0
Has stage ticket = (t : ℕ) × (stage ≡ Waiting t) × (ticket ≡ t % 18446744073709551616)

module _ {E C : Type 0} where
  -- the root, after it made a seat, and that seat
  abbrev pub one_more : View E C → View E C
  one_more v = record v { made = v.made + 1 }

  abbrev pub newcomer : View E C → View E C
  newcomer v = record {
    role = Seat (v.made + 1);
    stage = Idle;
    seen = v.seen;
    told = [];
    made = 0;
    back = [];
    setting = v.setting;
    told_setting = None;
  }

module _ {E C : Type 0} where
  -- a seat writes a note of what it has seen, and stays as it is
  abbrev pub same_view : View E C → View E C
  same_view v = v

  abbrev pub note_of : View E C → View E C
  note_of v = record {
    role = Note;
    stage = Idle;
    seen = v.seen;
    told = [];
    made = 0;
    back = [];
    setting = v.setting;
    told_setting = None;
  }

  -- a seat is told what a note says, and the root what a seat had seen that came back
  abbrev pub hears : View E C → View E C → View E C
  hears v w = record v { told = w.seen; told_setting = w.setting }

  abbrev pub takes_in : View E C → View E C → View E C
  takes_in v w = record v {
    told = w.seen;
    told_setting = w.setting;
    back = v.back ++ handed_back (number_of w.role) w.seen ∷ [];
  }

  -- what is left of a view that was taken in says nothing
  abbrev pub spent : View E C
  spent = record {
    role = Note;
    stage = Idle;
    seen = [];
    told = [];
    made = 0;
    back = [];
    setting = None;
    told_setting = None;
  }

  -- what was told is seen
  abbrev pub learned : View E C → View E C
  learned v = record v { seen = longer v.seen v.told; told = []; told_setting = None }

module _ {T E C : Type 0} (by : E → ℕ) where
  -- A look by which a seat sees what it was told. No more seats came back to the root than it made, and it made each
  -- caller that has an entry there. Who told the seat has the seat's setting.
  abbrev pub learns : Step (Option T) → Me (Option T) (View E C) → ℕ → Me (Option T) (View E C) → Type 0
  learns st m found m' = (m' ≡ (learned m.0, m.1)) ×
      GoesOn by (longer m.0.seen m.0.told) (number_of m.0.role) m.0.seen × Begins (longer m.0.seen m.0.told) m.0.told
      × (IsRoot m.0.role → length m.0.back ≤ m.0.made) ×
      (IsRoot m.0.role → NoneAbove by m.0.made (longer m.0.seen m.0.told)) ×
      ((x : C) → m.0.told_setting ≡ Some x → m.0.setting ≡ Some x)

module _ {T E C : Type 0} where
  -- the number found is the ticket that was taken
  abbrev pub takes_ticket : Step (Option T) → Me (Option T) (View E C) → ℕ → Me (Option T) (View E C) → Type 0
  takes_ticket st m found m' = (t : ℕ) × (found ≡ t % 18446744073709551616) ×
      (m' ≡ (record m.0 { stage = Waiting t }, m.1))

module _ {T E C : Type 0} where
  -- the seat is what it was
  abbrev pub stays : Step (Option T) → Me (Option T) (View E C) → ℕ → Me (Option T) (View E C) → Type 0
  stays st m found m' = m' ≡ m

module _ {T E C : Type 0} (by : E → ℕ) (entries : T → List E) (setting : T → C) where
  -- The value was taken. It has the setting, and its list goes on after all that was seen with no entry of this caller;
  -- the root made each caller that has an entry
  abbrev pub Took : Me (Option T) (View E C) → ℕ → T → Me (Option T) (View E C) → Type 0
  Took m t x m' = (m' ≡ (record m.0 { stage = InTurn t; seen = entries x }, (0, Some x) ∷ m.1)) ×
      (m.0.setting ≡ Some (setting x)) × GoesOn by (entries x) (number_of m.0.role) m.0.seen
      × (IsRoot m.0.role → NoneAbove by m.0.made (entries x))

  -- the value was taken exactly where the ticket is served
  abbrev pub looks : Step (Option T) → Me (Option T) (View E C) → ℕ → Me (Option T) (View E C) → Type 0
  looks st m found m' = (t : ℕ) → m.0.stage ≡ Waiting t
      → (found ≡ t % 18446744073709551616 → (x : T) × Took m t x m') × (found ≢ t % 18446744073709551616 → m' ≡ m)

  -- the value may be put back: it has the setting, and its list is the one at entering, or that list with one entry of
  -- this caller
  abbrev pub MayLeave : View E C → T → Type 0
  MayLeave v x = (v.setting ≡ Some (setting x)) × AddsAtMostOne by (entries x) (number_of v.role) v.seen

module _ {T E C : Type 0} (entries : T → List E) where
  -- the value is back, and the seat has seen its list
  abbrev pub leaves : Step (Option T) → Me (Option T) (View E C) → ℕ → Me (Option T) (View E C) → Type 0
  leaves st m found m' = (x : T) → m.1 ≡ (0, Some x) ∷ [] → m' ≡ (record m.0 { stage = Idle; seen = entries x }, [])

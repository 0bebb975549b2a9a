-- The rule that the turnstile's table keeps between any two steps: how the words, the slot and all views fit one
-- list of entries.
use Rattle.std.specs.Prelude.{◌≡◌, ℕ, ◌+◌, ◌%◌, ◌<◌, ◌≤◌, List, [], ◌∷◌, All, Contains, length, slice_index, Option}
use Rattle.std.specs.Prelude.{Some, None}
use mathlib.Core.Option.{some}
use lib.ListN.{get_elem?}
use Rattle.atomic_table.specs.Table.{State}
use Rattle.turnstile.specs.declared.view.Stage.{Stage}
use Rattle.turnstile.specs.declared.view.Stage.TheVariants.{Idle, Waiting, InTurn}
use Rattle.turnstile.specs.declared.view.Role.{Role}
use Rattle.turnstile.specs.declared.view.Role.TheVariants.{Note, Seat, Root}
use Rattle.turnstile.specs.declared.view.View.{View}
use Rattle.turnstile.specs.declared.view.Returned.{Returned}
use Rattle.turnstile.specs.Histories.{Begins, GoesOn, NoneAbove}

-- f of each view, added up
abbrev pub total : {V : Type 0} → (V → ℕ) → List V → ℕ
total f [] = 0
total f (v ∷ vs) = f v + total f vs

-- 1 where a ticket is held
abbrev pub queues : Stage → ℕ
queues Idle = 0
queues (Waiting t) = 1
queues (InTurn t) = 1

-- 1 where the turn is held
abbrev pub has_turn : Stage → ℕ
has_turn Idle = 0
has_turn (Waiting t) = 0
has_turn (InTurn t) = 1

-- a note counts for nothing
abbrev pub counts_if : Role → ℕ → ℕ
counts_if Note k = 0
counts_if (Seat number) k = k
counts_if Root k = k

module _ {E C : Type 0} where
  -- 1 where the view has a number, where it holds a ticket, and where it holds the turn
  abbrev pub numbered : View E C → ℕ
  numbered v = counts_if v.role 1

  abbrev pub queued : View E C → ℕ
  queued v = counts_if v.role (queues v.stage)

  abbrev pub turning : View E C → ℕ
  turning v = counts_if v.role (has_turn v.stage)

module _ {E C : Type 0} where
  -- the first view
  abbrev pub root_of : C → View E C
  root_of c = record {
    role = Root;
    stage = Idle;
    seen = [];
    told = [];
    made = 0;
    back = [];
    setting = Some c;
    told_setting = None;
  }

-- the root's number is 0
abbrev pub number_of : Role → ℕ
number_of Note = 0
number_of (Seat number) = number
number_of Root = 0

abbrev pub IsRoot : Role → Type 0
IsRoot role = role ≡ Root

abbrev pub IsNumbered : Role → Type 0
IsNumbered Note = ⊥
IsNumbered (Seat number) = Unit {0}
IsNumbered Root = Unit {0}

-- the view has this number: as its own, or as that of a seat that came back to it
abbrev pub Numbers : {E : Type 0} → Role → List (Returned E) → ℕ → Type 0
Numbers Note back k = ⊥
Numbers (Seat number) back k = number ≡ k
Numbers {E} Root back k = (p : Returned E) × Contains back p × (p.number ≡ k)

-- where there is a setting, it is this one
abbrev pub NoOther : {C : Type 0} → C → Option C → Type 0
NoOther {C} c said = (x : C) → said ≡ Some x → x ≡ c

module _ {E C : Type 0} where
  -- a view with a number has this setting; no view has another one, or was told another one
  abbrev pub HasSetting : C → View E C → Type 0
  HasSetting c v = (IsNumbered v.role → v.setting ≡ Some c) × NoOther c v.setting × NoOther c v.told_setting

module _ {E : Type 0} (by : E → ℕ) where
  module _ (log : List E) (seat_of : ℕ → ℕ) (made returned : ℕ) (seat : ℕ) where
    -- what the view at the place `seat` has seen of the list; the root also keeps the number of each seat that came
    -- back
    abbrev pub Saw : List E → ℕ → List (Returned E) → Role → Type 0
    Saw seen own back Note = Begins log seen
    Saw seen own back (Seat number) = GoesOn by log number seen × (seat_of number ≡ seat) × (0 < number) ×
        (number ≤ made)
    Saw seen own back Root = GoesOn by log 0 seen × (seat_of 0 ≡ seat) × (own ≡ made) × (length back ≡ returned)
        × All (λ (p : Returned E). GoesOn by log p.number p.seen × (seat_of p.number ≡ seat) × (0 < p.number) ×
        (p.number ≤ made)) back

module _ {E : Type 0} (log : List E) (seat : ℕ) where
  -- where the view's ticket stands between the one that is served and the next to be taken; in its turn the view has
  -- seen the whole list
  abbrev pub Queues : ℕ → ℕ → ℕ → (ℕ → ℕ) → List E → Stage → Type 0
  Queues next serving taken holder seen Idle = Unit {0}
  Queues next serving taken holder seen (Waiting t) = (serving ≤ t) × (t < next) × (holder t ≡ seat) ×
      (t ≡ serving → taken ≡ 0)
  Queues next serving taken holder seen (InTurn t) = (t ≡ serving) × (t < next) × (holder t ≡ seat) × (taken ≡ 1) ×
      (seen ≡ log)

module _ {T E C : Type 0} (by : E → ℕ) (entries : T → List E) (setting : T → C) (c : C) where
  -- the value is in the slot, with these entries and the setting that it began with
  abbrev pub IsHome : State (Option T) (View E C) → List E → Type 0
  IsHome s log = (x : T) × (get_elem? s.homes 0 ≡ some (some (Some x))) × (entries x ≡ log) × (setting x ≡ c)

  -- `log` is the list. Tickets are counted without end, and the first two words are the next one and the one that is
  -- served, modulo 2^64 (next_is, serving_is). Of the other words nothing is known.
  -- Each ticket between the two is held by one view (in_queue, each_stage), whose place `holder` names. At most one
  -- view has the turn (in_turn), and while none has it the value is at home (home).
  -- Each number up to `made` is that of one view, or of a seat that came back to the root; `seat_of` names the place
  -- (seated, each_number). No entry has another number (above).
  -- What a view has seen, or was told, begins the list, and in the rest there is no entry of its number (each_list,
  -- each_told).
  pub record Kept (s : State (Option T) (View E C)) : Type 0 where
    pub next : ℕ
    pub serving : ℕ
    pub taken : ℕ
    pub made : ℕ
    pub returned : ℕ
    pub log : List E
    pub holder : ℕ → ℕ
    pub seat_of : ℕ → ℕ
    pub wide : length s.words ≡ 66
    pub deep : length s.homes ≡ 1
    pub next_is : slice_index s.words 0 ≡ next % 18446744073709551616
    pub serving_is : slice_index s.words 1 ≡ serving % 18446744073709551616
    pub few : made < 4294967296
    pub in_queue : serving + total queued s.views ≡ next
    pub in_turn : total turning s.views ≡ taken
    pub seated : total numbered s.views + returned ≡ made + 1
    pub each_number : (k : ℕ) → 0 < k → k ≤ made →
        (d : View E C) × (get_elem? s.views (seat_of k) ≡ some d) × Numbers d.role d.back k
    pub above : NoneAbove by made log
    pub home : taken ≡ 0 → IsHome s log
    pub each_setting : (j : ℕ) (v : View E C) → get_elem? s.views j ≡ some v → HasSetting c v
    pub each_list : (j : ℕ) (v : View E C) → get_elem? s.views j ≡ some v →
        Saw by log seat_of made returned j v.seen v.made v.back v.role
    pub each_told : (j : ℕ) (v : View E C) → get_elem? s.views j ≡ some v → Begins log v.told
    pub each_stage : (j : ℕ) (v : View E C) → get_elem? s.views j ≡ some v →
        Queues log j next serving taken holder v.seen v.stage

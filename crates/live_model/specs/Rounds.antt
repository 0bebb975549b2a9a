-- The rounds, and the entries of the driver.
use Rattle.std.specs.Prelude.{◌≡◌, ℕ, ◌<◌, List, [], ◌∷◌, ◌++◌, All, flat_map, length, map, Option, Some, None}
use Rattle.std.specs.Option.{IfSome, IsSome}
use Rattle.journal.specs.declared.command.Command.TheVariants.{Open, Close}
use Rattle.journal.specs.declared.command.Entry.{Entry}
use Rattle.journal.specs.declared.command.Reply.{Reply}
use Rattle.journal.specs.declared.command.Reply.TheVariants.{NothingLeft, Opened, Closed}
use Rattle.journal.specs.Journal.{entry}
use Rattle.workload.specs.declared.script.Script.{Script}
use Rattle.live_model.specs.Script.{slot_rounds}
use Rattle.live_model.specs.Deeds.{Deed, Deeds, entries_by, ForLaterRounds}

-- An opening by the driver: the round beside which it stands, its position and its reply, and the position and the
-- reply of the closing, where a run was opened.
pub record Spell : Type 0 where
  pub round : ℕ
  pub opened : ℕ
  pub answer : Reply
  pub closed : Option (ℕ × Reply)

-- the openings of the driver: those beside rounds, those after the last round that opened a run, and the last one
pub record Driving : Type 0 where
  pub beside : List Spell
  pub later : List Spell
  pub last : Spell

-- all openings, in order
abbrev pub spells_of : Driving → List Spell
spells_of d = d.beside ++ d.later ++ d.last ∷ []

-- the entry of a closing, where there is one
abbrev pub closing_entries : Option (ℕ × Reply) → List (ℕ × Entry)
closing_entries None = []
closing_entries (Some x) = (x.0, entry 0 Close x.1) ∷ []

-- the entries of an opening of a run of at most so many slots, and of its closing right after it
abbrev pub spell_entries : ℕ → Spell → List (ℕ × Entry)
spell_entries most s = (s.opened, entry 0 (Open most) s.answer) ∷ closing_entries s.closed

-- an opening without a closing was answered that nothing is left, and one with a closing that a run is opened
abbrev pub FitsAnswer : Reply → Option (ℕ × Reply) → Type 0
FitsAnswer answer None = answer ≡ NothingLeft
FitsAnswer answer (Some x) = (slot slots count : ℕ) × (answer ≡ Opened slot slots count) × (x.1 ≡ Closed slot)

-- the position of the last entry of an opening with its closing
abbrev pub end_of : Spell → ℕ
end_of s = elim s.closed as (λ x. ℕ) [ None ↦ s.opened | Some x ↦ x.0 ]

-- each deed of a client and each opening of the driver
abbrev pub ForSpells : Deeds → List Spell → (Deed → Spell → Type 0) → Type 0
ForSpells deeds spells R = (client : ℕ) → All (λ d. All (R d) spells) (deeds client)

-- The driver's entries are its openings of at most `most` slots, each with its closing as the driver's next entry where
-- a run was opened: one for each round that has a run of slots beside it, and further ones after the last round, of
-- which the last one alone was answered that nothing is left.
pub record Drives (script : Script) (most : ℕ) (journal : List Entry) (driving : Driving) : Type 0 where
  pub entries : entries_by journal 0 ≡ flat_map (spell_entries most) (spells_of driving)
  pub answers : All (λ s. FitsAnswer s.answer s.closed) (spells_of driving)
  pub slot_rounds_are : map (λ s. s.round) driving.beside ≡ slot_rounds script
  pub after_last : All (λ s. s.round ≡ length script.rounds) (driving.later ++ driving.last ∷ [])
  pub later_run : All (λ s. IsSome s.closed) driving.later
  pub last_is : driving.last.closed ≡ None

-- Entries of clients of a round stand before those of later rounds; an opening stands after those of all rounds before
-- its own, and with its closing before those of all rounds after it.
pub record KeepRounds (deeds : Deeds) (driving : Driving) : Type 0 where
  pub clients : ForLaterRounds deeds (λ a b. IfSome a.position (λ p. IfSome b.position (λ q. p < q)))
  pub opened : ForSpells deeds (spells_of driving) (λ d s. d.round < s.round → IfSome d.position (λ p. p < s.opened))
  pub closed : ForSpells deeds (spells_of driving) (λ d s. s.round < d.round → IfSome d.position (λ p. end_of s < p))

-- How each client carried out its lines, and which entries of the journal are theirs.
use Rattle.std.specs.Prelude.{◌≡◌, ℕ, ◌+◌, ◌<◌, ◌≤◌, ◌==◌, true, false, List, [], ◌∷◌, All, AllPairs, flat_map, map}
use Rattle.std.specs.Prelude.{take, Option, Some, None}
use Rattle.std.specs.List.{enumerate_from, filter}
use Rattle.std.specs.Option.{IfSome, IsSome}
use Rattle.journal.specs.declared.command.Command.{Command}
use Rattle.journal.specs.declared.command.Entry.{Entry}
use Rattle.journal.specs.Journal.{version_of}
use Rattle.workload.specs.declared.script.ScriptLine.{ScriptLine}
use Rattle.workload.specs.declared.script.Script.{Script}
use Rattle.live_model.specs.Script.{command_of, is_pull, lines_by}

-- A line of the script as its client carried it out: the number of its round, the line, the position of its entry in
-- the journal where it has one, and a version: the newest one after that entry, or the one that the pull was told.
pub record Deed : Type 0 where
  pub round : ℕ
  pub line : ScriptLine
  pub position : Option ℕ
  pub version : ℕ

-- the deeds of each client, in the order of its lines, by the client's number
abbrev pub Deeds : Type 0
Deeds = ℕ → List Deed

-- ---- entries and their positions

-- the entries of a journal with their positions, which count from 1
abbrev pub numbered : List Entry → List (ℕ × Entry)
numbered journal = enumerate_from 1 journal

-- the entries of one caller, by position
abbrev pub entries_by : List Entry → ℕ → List (ℕ × Entry)
entries_by journal who = filter (λ x. x.1.who == who) (numbered journal)

-- what one caller asked, by position
abbrev pub asked_by : List Entry → ℕ → List (ℕ × Command)
asked_by journal who = map (λ x. (x.0, x.1.command)) (entries_by journal who)

-- the newest version after the entry at a position
abbrev pub version_after : List Entry → ℕ → ℕ
version_after journal position = version_of (take position journal)

-- ---- deeds

-- the command at the position, where there is one
abbrev pub asked_at : Option ℕ → Command → List (ℕ × Command)
asked_at None k = []
asked_at (Some position) k = (position, k) ∷ []

-- what a client asked the journal by these deeds
abbrev pub asked_in : List Deed → List (ℕ × Command)
asked_in deeds = flat_map (λ d. asked_at d.position (command_of d.line.asked)) deeds

-- the deed is a pull
abbrev pub IsPull : Deed → Type 0
IsPull d = is_pull d.line.asked ≡ true

-- the deed has an entry
abbrev pub HasEntry : Deed → Type 0
HasEntry d = IsSome d.position

-- each deed of a client and each later deed of the same client
abbrev pub ForLaterLines : Deeds → (Deed → Deed → Type 0) → Type 0
ForLaterLines deeds R = (client : ℕ) → AllPairs R (deeds client)

-- each deed of a round and each deed of a later round, whoever the clients are
abbrev pub ForLaterRounds : Deeds → (Deed → Deed → Type 0) → Type 0
ForLaterRounds deeds R =
    (client other : ℕ) → All (λ a. All (λ b. a.round < b.round → R a b) (deeds other)) (deeds client)

-- the version of a deed that has an entry is the newest one after it
abbrev pub HasNewest : List Entry → Deed → Type 0
HasNewest journal d = IfSome d.position (λ p. d.version ≡ version_after journal p)

-- ---- the script stands in the journal

-- a pull that has an entry has a version of at least two above the version of the deed before
abbrev pub IsTwoAbove : Deed → Deed → Type 0
IsTwoAbove a b = IsPull b → HasEntry b → a.version + 2 ≤ b.version

-- The client asks the journal only where a publishing that is under way hid the rank: two versions were made since all
-- that it had met, and since all entries of earlier rounds.
pub record AreMoved (deeds : Deeds) : Type 0 where
  pub first : (client : ℕ) → All (λ d. IsPull d → HasEntry d → 2 ≤ d.version) (deeds client)
  pub lines : ForLaterLines deeds IsTwoAbove
  pub rounds : ForLaterRounds deeds (λ a b. HasEntry a → IsTwoAbove a b)

-- Each client did the lines of its script. Its entries are those of its lines, in script order; each line has at most
-- one, and one that is no pull has one. The version of a line that has an entry is the newest one after it, which is
-- also what a pull is answered there.
pub record DoesScript (script : Script) (journal : List Entry) (deeds : Deeds) : Type 0 where
  pub lines : (client : ℕ) → map (λ d. (d.round, d.line)) (deeds client) ≡ lines_by script client
  pub entries : (client : ℕ) → 1 ≤ client → asked_by journal client ≡ asked_in (deeds client)
  pub commands : (client : ℕ) → All (λ d. is_pull d.line.asked ≡ false → HasEntry d) (deeds client)
  pub versions : (client : ℕ) → All (HasNewest journal) (deeds client)
  pub moved : AreMoved deeds

-- What is known of a course by the entries of its sessions and by what `level` left before each round, and which is
-- translated into facts of the closed journal.
use Rattle.std.specs.Prelude.{◌≡◌, ℕ, ◌+◌, ◌-◌, ◌<◌, ◌≤◌, List, [], ◌∷◌, All, AllPairs, flat_map}
use Rattle.std.specs.Prelude.{false, length, map, take}
use Rattle.std.specs.Prelude.{Option, Some, None}
use Rattle.std.specs.Option.{IfSome}
use Rattle.journal.specs.declared.command.Command.{Command}
use Rattle.journal.specs.declared.command.Entry.{Entry}
use Rattle.journal.specs.declared.command.Reply.TheVariants.{NothingLeft, Opened}
use Rattle.journal.specs.Driven.{Drive}
use Rattle.journal.specs.Journal.{entry, version_of}
use Rattle.client_session.specs.Own.{own_entries, OwnEntry, versions_in}
use Rattle.workload.specs.declared.script.Script.{Script}
use Rattle.live_model.specs.Script.{command_of, is_pull, lines_by}
use Rattle.live_model.specs.Deeds.{Deed, Deeds, entries_by, HasEntry, IsPull, IsTwoAbove, version_after}
use Rattle.live_model.specs.Rounds.{Driving, end_of, Spell, spells_of}

-- ---- own entries

-- these are the entries of the client, by position, each with the newest version after it
pub record HaveEntries (journal : List Entry) (client : ℕ) (own : List OwnEntry) : Type 0 where
  pub entries : entries_by journal client ≡ map (λ e. (e.position, entry client e.command e.reply)) own
  pub versions : All (λ e. e.version ≡ version_after journal e.position) own

-- the position, the version and the command, where there is an entry
abbrev pub kept_at : Option ℕ → ℕ → Command → List (ℕ × ℕ × Command)
kept_at None version k = []
kept_at (Some position) version k = (position, version, k) ∷ []

-- the entries are those of the deeds that have one
abbrev pub AreKept : List OwnEntry → List Deed → Type 0
AreKept own deeds =
    map (λ e. (e.position, e.version, e.command)) own
    ≡ flat_map (λ d. kept_at d.position d.version (command_of d.line.asked)) deeds

-- ---- levels

-- what `level` left before each round: the position and the version that all had seen
pub record Levels : Type 0 where
  pub position : ℕ → ℕ
  pub version : ℕ → ℕ

-- the newest version before the entry at a position
abbrev pub version_before : List Entry → ℕ → ℕ
version_before journal position = version_of (take (position - 1) journal)

-- the version of an entry is the newest one before it, or the next one where the entry made it
abbrev pub RisesOver : List Entry → OwnEntry → Type 0
RisesOver journal e = e.version ≡ version_before journal e.position + versions_in e.reply

-- The entry of the deed stands between the levels before and after its round; its version lies between theirs; the
-- version of the first level was made before its entry; and a pull that has an entry was told at least two above that.
pub record IsBetween (journal : List Entry) (levels : Levels) (d : Deed) : Type 0 where
  pub above : IfSome d.position (λ p. levels.position d.round < p)
  pub within : IfSome d.position (λ p. p ≤ levels.position (d.round + 1))
  pub seen : IsPull d → levels.version d.round ≤ d.version
  pub shown : d.version ≤ levels.version (d.round + 1)
  pub made : IfSome d.position (λ p. levels.version d.round ≤ version_before journal p)
  pub moved : IsPull d → HasEntry d → levels.version d.round + 2 ≤ d.version

-- the opening and its closing stand between the levels before and after its round
pub record IsSpellBetween (levels : Levels) (s : Spell) : Type 0 where
  pub above : levels.position s.round < s.opened
  pub within : end_of s ≤ levels.position (s.round + 1)

-- levels never fall, and all deeds and openings stand between those of their rounds
pub record AreLevelled (journal : List Entry) (levels : Levels) (deeds : Deeds) (driving : Driving) : Type 0 where
  pub positions : (n m : ℕ) → n ≤ m → levels.position n ≤ levels.position m
  pub versions : (n m : ℕ) → n ≤ m → levels.version n ≤ levels.version m
  pub lines : (client : ℕ) → All (IsBetween journal levels) (deeds client)
  pub openings : All (IsSpellBetween levels) (spells_of driving)

-- a later deed of the same client: its version is no less, the version of the earlier one was made before its entry,
-- and where it is a pull with an entry it was told at least two above
pub record IsSteady (journal : List Entry) (a b : Deed) : Type 0 where
  pub never_fall : a.version ≤ b.version
  pub made : IfSome b.position (λ p. a.version ≤ version_before journal p)
  pub moved : IsTwoAbove a b

-- A session did the lines of its client: its entries are the client's, and those of the deeds that have one; each
-- command but a pull has an entry, all versions are the journal's, and its deeds go on steadily.
pub record IsSession
    (script : Script) (journal : List Entry) (client : ℕ) (own : List OwnEntry) (deeds : List Deed) : Type 0 where
  pub lines : map (λ d. (d.round, d.line)) deeds ≡ lines_by script client
  pub entries : own ≡ own_entries client journal
  pub kept : AreKept own deeds
  pub commands : All (λ d. is_pull d.line.asked ≡ false → HasEntry d) deeds
  pub known : All (λ d. d.version ≤ version_of journal) deeds
  pub first : All (λ d. IsPull d → HasEntry d → 2 ≤ d.version) deeds
  pub steady : AllPairs (IsSteady journal) deeds

-- the clients of the script, with numbers from 1 on, did their lines by these entries, and nobody has number 0
pub record AreSessions (script : Script) (journal : List Entry) (own : ℕ → List OwnEntry) (deeds : Deeds)
    : Type 0 where
  pub session : (client : ℕ) → 1 ≤ client → IsSession script journal client (own client) (deeds client)
  pub nobody : deeds 0 ≡ []
  pub no_line : lines_by script 0 ≡ []

-- ---- the driver

-- the opening of a driven run, with its closing, after these entries
abbrev pub spell_driven : ℕ → List Entry → Drive → Spell
spell_driven round before d = record {
  round = round;
  opened = length before + length d.earlier + 1;
  answer = Opened d.first d.slots d.count;
  closed = Some (length before + length d.earlier + 1 + length d.between + 1, d.answer);
}

-- an opening that is answered that nothing is left, after these entries and those of others
abbrev pub spell_for_nothing : ℕ → List Entry → List Entry → Spell
spell_for_nothing round before earlier =
    record { round = round; opened = length before + length earlier + 1; answer = NothingLeft; closed = None }

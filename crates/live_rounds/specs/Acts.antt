-- What the lines of a client came to, and what they make of its session.
use Rattle.std.specs.Prelude.{◌≡◌, ℕ, ◌+◌, ◌<◌, ◌≤◌, Bool, true, false, List, [], ◌∷◌, ◌++◌, All, AllPairs}
use Rattle.std.specs.Prelude.{flat_map, length, map}
use Rattle.std.specs.List.{filter}
use Rattle.journal.specs.declared.command.Reply.{Reply}
use Rattle.journal.specs.declared.command.Reply.TheVariants.{Rank}
use Rattle.journal.specs.Answer.{pulled}
use Rattle.journal.specs.Journal.{is_full}
use Rattle.rank_board.specs.declared.pulls.Pull.{Pull as Note}
use Rattle.workload.specs.declared.script.Asked.{Asked}
use Rattle.workload.specs.declared.script.Asked.TheVariants.{Pull}
use Rattle.workload.specs.declared.script.ScriptLine.{ScriptLine}
use Rattle.client_session.specs.Models.{SessionModel}
use Rattle.client_session.specs.Own.{OwnEntry, versions_in}
use Rattle.live_model.specs.Script.{command_of, coflow_pulled, is_pull}
use Rattle.live_rounds.specs.declared.answer.PullDone.{PullDone}

-- what a line came to: an entry of the journal, or a pull that the session noted
pub data Outcome : Type 0 where
  entered : OwnEntry → Outcome
  noted : Note → Outcome

-- a line as its client carried it out
pub record Act : Type 0 where
  pub line : ScriptLine
  pub outcome : Outcome

abbrev pub act : ScriptLine → Outcome → Act
act line outcome = record { line = line; outcome = outcome }

-- ---- what it came to

abbrev pub entries_at : Outcome → List OwnEntry
entries_at (entered e) = e ∷ []
entries_at (noted n) = []

abbrev pub notes_at : Outcome → List Note
notes_at (entered e) = []
notes_at (noted n) = n ∷ []

abbrev pub has_entry : Outcome → Bool
has_entry (entered e) = true
has_entry (noted n) = false

-- the newest version after the entry, or the version that the noted pull was told
abbrev pub version_at : Outcome → ℕ
version_at (entered e) = e.version
version_at (noted n) = n.version

-- the version that the line came to is no less than this one, and greater where its entry made it
abbrev pub IsOver : ℕ → Outcome → Type 0
IsOver version (entered e) = version + versions_in e.reply ≤ e.version
IsOver version (noted n) = version ≤ n.version

-- the rank that the reply tells, or 0
abbrev pub rank_in : Reply → ℕ
rank_in (Rank version rank) = rank
rank_in reply = 0

abbrev pub rank_at : Outcome → ℕ
rank_at (entered e) = rank_in e.reply
rank_at (noted n) = n.rank

-- ---- lines in their order

-- the entries that the lines have
abbrev pub entries_in : List Act → List OwnEntry
entries_in acts = flat_map (λ a. entries_at a.outcome) acts

-- the noted pulls of the lines
abbrev pub notes_in : List Act → List Note
notes_in acts = flat_map (λ a. notes_at a.outcome) acts

-- the pull of a line, with what it was told
abbrev pub pull_done : Act → PullDone
pull_done a = record {
  client = a.line.client;
  line = a.line.line;
  coflow = coflow_pulled a.line.asked;
  version = version_at a.outcome;
  rank = rank_at a.outcome;
}

-- the pulls among the lines
abbrev pub pulls_in : List Act → List PullDone
pulls_in acts = map pull_done (filter (λ a. is_pull a.line.asked) acts)

-- The entry is of the line's command, and answers a pull by the newest version. A noted pull is that of the line.
abbrev pub FitsLine : Asked → Outcome → Type 0
FitsLine asked (entered e) =
    (e.command ≡ command_of asked) × (is_full e.reply ≡ false)
    × (is_pull asked ≡ true → e.reply ≡ pulled e.version (rank_in e.reply))
FitsLine asked (noted n) = asked ≡ Pull n.coflow

-- the mark of a noted pull is how many entries the session had before its line
abbrev pub HasMark : ℕ → Outcome → Type 0
HasMark many (entered e) = Unit {0}
HasMark many (noted n) = n.mark ≡ many

-- so it is with each line, where the session had so many entries before
abbrev pub AreMarked : ℕ → List Act → Type 0
AreMarked many [] = Unit {0}
AreMarked many (a ∷ acts) = HasMark many a.outcome × AreMarked (many + length (entries_at a.outcome)) acts

-- the line is a pull that has an entry
abbrev pub IsPullByTurn : Act → Type 0
IsPullByTurn a = (is_pull a.line.asked ≡ true) × (has_entry a.outcome ≡ true)

-- ---- the session

-- the session stays in its hall, with its number and its seat at the board
pub record StaysPut (old new : SessionModel) : Type 0 where
  pub gate : new.gate ≡ old.gate
  pub setting : new.setting ≡ old.setting
  pub number : new.number ≡ old.number
  pub board : new.rank.table ≡ old.rank.table

-- What these lines make of a session. Its entries and its noted pulls grow by theirs, in their order, and each fits its
-- line. All entries stand behind what the session had seen. No version is less than one that the session had seen, or
-- that an earlier line came to, and a new one is greater. A pull has an entry only where two versions were made since
-- what the session had seen and since all earlier lines.
pub record HasActed (old new : SessionModel) (acts : List Act) : Type 0 where
  pub place : StaysPut old new
  pub own : new.own ≡ old.own ++ entries_in acts
  pub notes : new.rank.pulls ≡ old.rank.pulls ++ notes_in acts
  pub fits : All (λ a. FitsLine a.line.asked a.outcome) acts
  pub marks : AreMarked (length old.own) acts
  pub positions : All (λ e. (old.position < e.position) × (e.position ≤ new.position)) (entries_in acts)
  pub versions : All (λ a. IsOver old.rank.seen a.outcome × (version_at a.outcome ≤ new.rank.seen)) acts
  pub steady : AllPairs (λ a b. IsOver (version_at a.outcome) b.outcome) acts
  pub moved : All (λ a. IsPullByTurn a → old.rank.seen + 2 ≤ version_at a.outcome) acts
  pub moved_on : AllPairs (λ a b. IsPullByTurn b → version_at a.outcome + 2 ≤ version_at b.outcome) acts
  pub later : (old.position ≤ new.position) × (old.rank.seen ≤ new.rank.seen)

-- Why a printed journal is not right, and which reason comes first.
use Rattle.std.specs.Prelude.{◌≡◌, ◌≢◌, ℕ, ◌+◌, ◌-◌, ◌<◌, ◌≤◌, List, Some, length, take}
use Rattle.std.specs.List.{slice_index_or}
use Rattle.flow_table.specs.Table.{TableFacts}
use Rattle.journal.specs.declared.command.Entry.{Entry}
use Rattle.journal.specs.declared.command.Reply.{Reply}
use Rattle.journal.specs.declared.opening.Opening.{Opening}
use Rattle.journal.specs.Answer.{reply_of}
use Rattle.journal.specs.Closed.{schedule_of}
use Rattle.journal.specs.Fold.{state_of}
use Rattle.journal.specs.Journal.{IsLegal, version_of}
use Rattle.journal.specs.State.{Run}
use Rattle.live_text.specs.declared.value.EntryLine.{EntryLine}
use Rattle.live_text.specs.declared.value.Live.{Live}
use Rattle.live_text.specs.declared.value.Said.{Said}
use Rattle.live_text.specs.declared.value.Said.TheVariants.{Joined}
use Rattle.live_text.specs.declared.value.Word.TheVariants.{Publish}
use Rattle.schedule_model.specs.RunList.{slots_in}
use Rattle.journal_audit.specs.Parted.{IsFirstWrongOrder, IsPartedAt}
use Rattle.journal_audit.specs.Pulls.{IsFirstWrongRank, IsFirstWrongVersion}
use Rattle.journal_audit.specs.Orders.{orders_of}
use Rattle.journal_audit.specs.declared.verdict.Audit.{Audit}
use Rattle.journal_audit.specs.declared.verdict.Audit.TheVariants.{Yes, No}
use Rattle.journal_audit.specs.declared.verdict.AuditReason.{AuditReason}
use Rattle.journal_audit.specs.declared.verdict.AuditReason.TheVariants.{NoId, NoEntry, NoClose, NoOrder, NoPull, NoVersion}
use Rattle.journal_audit.specs.declared.verdict.AuditReason.TheVariants.{NoRun}
use Rattle.journal_audit.specs.Sound.{IsSoundLive}
use Rattle.journal_audit.specs.Stated.{IsKnown, command_for, journal_in, opening_for, reply_for}

abbrev pub line_at : List EntryLine → ℕ → EntryLine
line_at entries k = slice_index_or entries k (record { who = 0; word = Publish; said = Joined })

-- the id of the entry at the position is no coflow's, and those of all before are
pub record IsFirstUnknown (ids : List ℕ) (entries : List EntryLine) (position : ℕ) : Type 0 where
  pub counted : 1 ≤ position
  pub inside : position ≤ length entries
  pub unknown : IsKnown ids (line_at entries (position - 1)).word → ⊥
  pub before : (k : ℕ) → k + 1 < position → IsKnown ids (line_at entries k).word

-- the master's reply to the entry at the position is not the stated one, and those to all before are
pub record IsFirstWrongEntry (o : Opening) (journal : List Entry) (entries : List EntryLine) (position : ℕ)
    (stated : Said) (real : Reply) : Type 0 where
  pub counted : 1 ≤ position
  pub inside : position ≤ length entries
  pub says : (line_at entries (position - 1)).said ≡ stated
  pub should :
      reply_of o (take (position - 1) journal) (command_for o.table.ids (line_at entries (position - 1)).word) ≡ real
  pub differ : real ≢ reply_for stated
  pub before : IsLegal o (take (position - 1) journal)

-- the reason holds of the text, with its values; of its kind it is the one with the least position, version, line or
-- slot
abbrev pub HasReasonFor : Opening → List Entry → Live → AuditReason → Type 0
HasReasonFor o journal l (NoId position) = IsFirstUnknown o.table.ids l.entries position
HasReasonFor o journal l (NoEntry position stated real) = IsFirstWrongEntry o journal l.entries position stated real
HasReasonFor o journal l (NoClose slot) = (r : Run) × ((state_of o journal).run ≡ Some r) × (r.first ≡ slot)
HasReasonFor o journal l (NoOrder version place) = IsFirstWrongOrder l.orders (orders_of o journal) version place
HasReasonFor o journal l (NoPull client line stated real) =
    IsFirstWrongRank o journal l.pulls client line stated real
HasReasonFor o journal l (NoVersion client line) =
    IsFirstWrongVersion o.table.ids (version_of journal) l.pulls client line
HasReasonFor o journal l (NoRun slot) =
    (1 ≤ slot) × IsPartedAt (slots_in l.runs) (schedule_of o journal) (slot - 1)

-- the place of the reason's kind in the order of kinds
abbrev pub kind : AuditReason → ℕ
kind (NoId position) = 0
kind (NoEntry position stated real) = 1
kind (NoClose slot) = 2
kind (NoOrder version place) = 3
kind (NoPull client line stated real) = 4
kind (NoVersion client line) = 5
kind (NoRun slot) = 6

-- the reason holds, and none of an earlier kind does
pub record IsFirstReasonFor (o : Opening) (journal : List Entry) (l : Live) (reason : AuditReason) : Type 0 where
  pub holds : HasReasonFor o journal l reason
  pub first : (other : AuditReason) → kind other < kind reason → HasReasonFor o journal l other → ⊥

-- the same for the table and the opening weights
abbrev pub IsFirstReason : TableFacts → List ℕ → Live → AuditReason → Type 0
IsFirstReason t weights l reason = IsFirstReasonFor (opening_for t weights l) (journal_in t l) l reason

-- a yes to these numbers of entries, of orders and of slots
pub record IsYes (t : TableFacts) (weights : List ℕ) (l : Live) (entries versions slots : ℕ) : Type 0 where
  pub sound : IsSoundLive t weights l
  pub entries_are : entries ≡ length l.entries
  pub versions_are : versions ≡ length l.orders
  pub slots_are : slots ≡ length (slots_in l.runs)

-- the verdict is yes on a right text, with its numbers, and else it tells the first reason
abbrev pub IsAudit : TableFacts → List ℕ → Live → Audit → Type 0
IsAudit t weights l (Yes entries versions slots) = IsYes t weights l entries versions slots
IsAudit t weights l (No reason) = IsFirstReason t weights l reason

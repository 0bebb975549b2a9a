-- What is taken down while a master answers the entries of a printed journal.
use Rattle.std.specs.Prelude.{ℕ, List, nat_eq}
use Rattle.indexmap.specs.IndexMap.{get}
use Rattle.journal.specs.declared.command.Entry.{Entry}
use Rattle.journal.specs.declared.opening.Opening.{Opening}
use Rattle.journal_audit.specs.Replay.{IsReplay}
use Rattle.live_text.specs.declared.value.EntryLine.{EntryLine}
use Rattle.journal_audit.specs.Orders.{AreOrders}
use Rattle.journal_audit.specs.Ranks.{AreRanks}
use Rattle.journal_audit.specs.declared.replay.Replayed.{Replayed}
use Rattle.journal_audit.specs.declared.replay.WrongEntry.{WrongEntry}
use Rattle.journal_audit.specs.Reasons.{IsFirstWrongEntry}
use Rattle.journal_audit.specs.Stated.{stated_by}

-- The slots are those of a replay of the journal, the tables tell the ranks in its versions, and its orders are the
-- stated ones, or the first wrong one is told.
pub record IsReplayed (o : Opening) (journal : List Entry) (orders : List (List ℕ)) (x : Replayed) : Type 0 where
  pub replay : IsReplay o journal x.schedule
  pub ranks : AreRanks (get nat_eq) o journal x.ranks.items
  pub orders_are : AreOrders o journal orders x.wrong

-- the entry is the first that is answered otherwise
abbrev pub IsWrongEntry : Opening → List EntryLine → WrongEntry → Type 0
IsWrongEntry o entries w =
    IsFirstWrongEntry o (stated_by o.table.ids entries) entries w.position w.stated w.real

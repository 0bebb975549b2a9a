-- What a printed journal must say to be right, whoever made it.
use Rattle.std.specs.Prelude.{◌≡◌, ℕ, ◌<◌, List, All, None, length}
use Rattle.flow_table.specs.Table.{TableFacts}
use Rattle.journal.specs.declared.command.Entry.{Entry}
use Rattle.journal.specs.declared.opening.Opening.{Opening}
use Rattle.journal.specs.Closed.{schedule_of}
use Rattle.journal.specs.Fold.{state_of}
use Rattle.journal.specs.Journal.{IsLegal, version_of}
use Rattle.live_text.specs.declared.value.EntryLine.{EntryLine}
use Rattle.live_text.specs.declared.value.Live.{Live}
use Rattle.live_text.specs.declared.value.PullLine.{PullLine}
use Rattle.schedule_model.specs.RunList.{slots_in}
use Rattle.journal_audit.specs.Orders.{orders_of}
use Rattle.journal_audit.specs.Pulls.{HasVersion, real_rank}
use Rattle.journal_audit.specs.Stated.{IsKnown, journal_in, opening_for}

-- The text is right for this opening and the journal that its entries state. The ids of the entries are coflows'. The
-- journal is legal, and no run is open at its end. The orders are those of its versions, one for each. Each pull is told
-- the rank of its coflow in its version; it names a version of the journal, or 0, and the versions of the pulls of a
-- client never fall. The runs are the schedule of the closed runs.
pub record IsRightFor (o : Opening) (journal : List Entry) (l : Live) : Type 0 where
  pub known : All (λ (e : EntryLine). IsKnown o.table.ids e.word) l.entries
  pub legal : IsLegal o journal
  pub closed : (state_of o journal).run ≡ None
  pub orders : l.orders ≡ orders_of o journal
  pub ranks : All (λ (p : PullLine). p.rank ≡ real_rank o journal p) l.pulls
  pub versions : (k : ℕ) → k < length l.pulls → HasVersion o.table.ids (version_of journal) l.pulls k
  pub runs : slots_in l.runs ≡ schedule_of o journal

-- the text is right for the table and the opening weights
abbrev pub IsSoundLive : TableFacts → List ℕ → Live → Type 0
IsSoundLive t weights l = IsRightFor (opening_for t weights l) (journal_in t l) l

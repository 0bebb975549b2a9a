-- What `audit` reads and writes.
use Rattle.std.specs.Prelude.{◌≡◌, ℕ, ◌<◌, ◌≤◌, Bool, false, true, List, Option, All, Contains, length, map}
use Rattle.command_words.specs.Jobs.{report_name, trace_name}
use Rattle.command_words.specs.Words.{Said}
use Rattle.coflow_units.specs.Flows.{coflow_of, units_of}
use Rattle.coflow_units.specs.Patient.{IsServedOrWaits}
use Rattle.coflow_units.specs.Schedule.{IsClear, slots_of, times}
use Rattle.flow_table.specs.Table.{TableFacts}
use Rattle.journal.specs.declared.command.Entry.{Entry}
use Rattle.journal.specs.declared.opening.Opening.{Opening}
use Rattle.journal.specs.Closed.{IsOpenedIn, closed_runs}
use Rattle.journal.specs.Counts.{run_line}
use Rattle.journal.specs.Fold.{state_of}
use Rattle.journal.specs.Journal.{line_of}
use Rattle.journal.specs.State.{Run, owed}
use Rattle.journal_audit.specs.declared.verdict.Audit.{Audit}
use Rattle.journal_audit.specs.declared.verdict.Audit.TheVariants.{No, Yes}
use Rattle.journal_audit.specs.Line.{audit_text}
use Rattle.journal_audit.specs.Reasons.{IsAudit}
use Rattle.journal_audit.specs.Sound.{IsSoundLive}
use Rattle.journal_audit.specs.Stated.{journal_in, opening_for}
use Rattle.live_text.specs.declared.value.Live.{Live}
use Rattle.outside.specs.Shelf.{Told}
use Rattle.schedule_model.specs.RunList.{slots_in}
use Rattle.command_files.specs.Inputs.{IsInput}
use Rattle.command_files.specs.Written.{Appends}
use Rattle.command_files.specs.Reports.{IsJournalIfNamed}

-- whether a verdict is a yes
abbrev pub is_yes : Audit → Bool
is_yes (Yes entries versions slots) = true
is_yes (No reason) = false

-- The instance that the files give, the printed journal, the verdict on it, whether that is a yes, and its line.
pub record AuditOf (told : Option Told) (said : Said) (yes : Bool) (text : List ℕ) : Type 0 where
  pub table : TableFacts
  pub weights : List ℕ
  pub input : IsInput told (trace_name said.job) said.weights said.unit table weights
  pub live : Live
  pub live_is : IsJournalIfNamed told (report_name said.job) live
  pub verdict : Audit
  pub audited : IsAudit table weights live verdict
  pub yes_is : yes ≡ is_yes verdict
  pub text_is : text ≡ audit_text verdict

-- The line of a no on the printed journal was written, with the first reason.
pub record WritesUnsound (told : Option Told) (said : Said) (old new : Option (List ℕ)) : Type 0 where
  pub text : List ℕ
  pub audits : AuditOf told said false text
  pub written : Appends old new text

-- What the runs of a printed journal meet, where its entries are this journal. Its slots are those of the closed runs,
-- each with all flows that its run grants, and each of these runs was opened by an entry. A flow that owed units when a
-- run was opened, and whose coflow stood in the line there, is granted, or shares a port with a granted flow no later in
-- the line. No flow stands twice in a slot, and none in more slots than it has units.
pub record KeepsTheLine (o : Opening) (journal : List Entry) (t : TableFacts) (slots : List (List ℕ)) : Type 0 where
  pub closed : slots ≡ slots_of (map run_line (closed_runs o journal))
  pub opened : All (IsOpenedIn o journal) (closed_runs o journal)
  pub patient : (r : Run) (f : ℕ) → (x : IsOpenedIn o journal r) → f < length t.flows →
      Contains (line_of o x.before) (coflow_of t.flows f) → 0 < owed o (state_of o x.before) f →
      IsServedOrWaits t.flows (line_of o x.before) r.granted f
  pub once : All (IsClear t.flows) slots
  pub within : (f : ℕ) → times slots f ≤ units_of t.flows f

-- the same of a printed journal, for a table and opening weights
abbrev pub RunsKeepTheLine : TableFacts → List ℕ → Live → Type 0
RunsKeepTheLine t weights l = KeepsTheLine (opening_for t weights l) (journal_in t l) t (slots_in l.runs)

-- The line of a yes on the printed journal was written. The journal is right for the table and the opening weights that
-- the files give, so its runs serve each flow that waits, none twice in a slot, and none more often than it has units.
pub record WritesSound (told : Option Told) (said : Said) (old new : Option (List ℕ)) : Type 0 where
  pub text : List ℕ
  pub audits : AuditOf told said true text
  pub right : IsSoundLive audits.table audits.weights audits.live
  pub keeps : RunsKeepTheLine audits.table audits.weights audits.live
  pub written : Appends old new text

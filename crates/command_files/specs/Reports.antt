-- The report or the printed journal of a file.
use Rattle.std.specs.Prelude.{ℕ, ◌≤◌, List, Option, Some, None, IfSome, length}
use Rattle.coflow_units.specs.declared.limits.TheConstants.{MAX_REPORT}
use Rattle.outside.specs.Shelf.{Told, bytes_of}
use Rattle.report_text.specs.declared.value.Report.{Report}
use Rattle.report_text.specs.Reading.{IsTextOf}
use Rattle.report_text.specs.Report.{HasSmallNumbers, IsReport}
use Rattle.online_check.specs.declared.any_report.AnyReport.{AnyReport}
use Rattle.online_check.specs.AnyReport.{IsAnyReport, IsAnyText}
use Rattle.live_text.specs.Reading.{IsTextOf as IsJournalTextOf}
use Rattle.live_text.specs.declared.value.Live.{Live}
use Rattle.live_text.specs.Live.{IsLive}

-- a report of a plan that was read, where the bytes under its name are told: they are its text
pub record IsReportOf (told : Option Told) (name : List ℕ) (report : Report) : Type 0 where
  pub fits : IsReport report
  pub small : HasSmallNumbers report
  pub reads : IfSome told (λ t. (length (bytes_of t name) ≤ MAX_REPORT) × IsTextOf (bytes_of t name) report)

-- A report that was read, where the bytes under its name are told: they are its text. It is that of an online run where
-- their first line is that of one, and else that of a plan.
pub record IsAnyReportOf (told : Option Told) (name : List ℕ) (report : AnyReport) : Type 0 where
  pub fits : IsAnyReport report
  pub reads : IfSome told (λ t. (length (bytes_of t name) ≤ MAX_REPORT) × IsAnyText (bytes_of t name) report)

-- there is a name of a report, and this is the report
abbrev pub IsReportIfNamed : Option Told → Option (List ℕ) → AnyReport → Type 0
IsReportIfNamed told None report = ⊥
IsReportIfNamed told (Some name) report = IsAnyReportOf told name report

-- a printed journal that was read, where the bytes under its name are told: they are its text
pub record IsJournalOf (told : Option Told) (name : List ℕ) (live : Live) : Type 0 where
  pub fits : IsLive live
  pub reads : IfSome told (λ t. (length (bytes_of t name) ≤ MAX_REPORT) × IsJournalTextOf (bytes_of t name) live)

-- there is a name of a printed journal, and this is the journal
abbrev pub IsJournalIfNamed : Option Told → Option (List ℕ) → Live → Type 0
IsJournalIfNamed told None live = ⊥
IsJournalIfNamed told (Some name) live = IsJournalOf told name live

-- there is a file of a report, and it has the text of one
abbrev pub HasReportText : {R : Type 0} → (List ℕ → R → Type 0) → Option (List ℕ) → Type 0
HasReportText IsText None = ⊥
HasReportText {R} IsText (Some text) = (length text ≤ MAX_REPORT) × (report : R) × IsText text report

-- the same of a report of a plan or of an online run
abbrev pub IsReportText : Option (List ℕ) → Type 0
IsReportText text = HasReportText IsAnyText text

-- the same of a printed journal
abbrev pub IsJournalText : Option (List ℕ) → Type 0
IsJournalText text = HasReportText IsJournalTextOf text

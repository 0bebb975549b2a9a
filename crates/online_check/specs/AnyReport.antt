-- Reports of both kinds: those of plans and those of online runs. The first line of a text tells its kind.
use Rattle.std.specs.Prelude.{ℕ, List, Result, Ok, Err}
use Rattle.online_text.specs.Reading.{BeginsOnline}
use Rattle.online_text.specs.Reading as online
use Rattle.online_text.specs.Online.{IsOnline}
use Rattle.report_text.specs.declared.fault.ReportFault.{ReportFault}
use Rattle.report_text.specs.declared.fault.ReportFault.TheVariants.{BadText, NoMemory}
use Rattle.report_text.specs.Reading as plan
use Rattle.report_text.specs.Report.{IsReport}
use Rattle.online_check.specs.declared.any_report.AnyReport.{AnyReport}
use Rattle.online_check.specs.declared.any_report.AnyReport.TheVariants.{Online, Plan}

-- a text can state what the report says
abbrev pub IsAnyReport : AnyReport → Type 0
IsAnyReport (Plan r) = IsReport r
IsAnyReport (Online o) = IsOnline o

-- the bytes are the text of the report, and their first line is that of its kind
abbrev pub IsAnyText : List ℕ → AnyReport → Type 0
IsAnyText bytes (Plan r) = (BeginsOnline bytes → ⊥) × plan.IsTextOf bytes r
IsAnyText bytes (Online o) = BeginsOnline bytes × online.IsTextOf bytes o

-- The bytes are the text of no report of the kind that their first line tells, and the line is the first one that no
-- such text has after the lines before it.
pub data IsAnyBadAt (bytes : List ℕ) (line : ℕ) : Type 0 where
  of_plan : (BeginsOnline bytes → ⊥) → plan.IsBadAt bytes line → IsAnyBadAt bytes line
  of_online : BeginsOnline bytes → online.IsBadAt bytes line → IsAnyBadAt bytes line

-- a reader answers the report whose text the bytes are, or the first line that is wrong; want of memory is free
abbrev pub GivesAnyReport : List ℕ → Result AnyReport ReportFault → Type 0
GivesAnyReport bytes (Ok r) = IsAnyText bytes r
GivesAnyReport bytes (Err (BadText line)) = IsAnyBadAt bytes line
GivesAnyReport bytes (Err NoMemory) = Unit {0}

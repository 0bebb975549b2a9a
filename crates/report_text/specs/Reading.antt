-- What a reader of reports answers.
use Rattle.std.specs.Prelude.{◌≡◌, ℕ, ◌<◌, ◌≤◌, ◌++◌, List, Result, Ok, Err, length}
use Rattle.report_text.specs.declared.value.Report.{Report}
use Rattle.report_text.specs.declared.fault.ReportFault.{ReportFault}
use Rattle.report_text.specs.declared.fault.ReportFault.TheVariants.{BadText, NoMemory}
use Rattle.report_text.specs.Report.{HasSmallNumbers, IsReport}
use Rattle.report_text.specs.Text.{report_lines, report_text}
use Rattle.coflow_units.specs.Text.{text_of}

-- the bytes are the text of the report
pub record IsTextOf (bytes : List ℕ) (r : Report) : Type 0 where
  pub report : IsReport r
  pub small : HasSmallNumbers r
  pub text : bytes ≡ report_text r

-- the bytes begin with n whole lines, with which the text of some report begins
pub record IsBeginning (bytes : List ℕ) (n : ℕ) : Type 0 where
  pub whole : Report
  pub report : IsReport whole
  pub small : HasSmallNumbers whole
  pub front : List (List ℕ)
  pub others : List (List ℕ)
  pub lines : report_lines whole ≡ front ++ others
  pub count : length front ≡ n
  pub rest : List ℕ
  pub text : bytes ≡ text_of front ++ rest

-- the bytes are the text of no report, and the line is the first one that no text of a report has after the lines
-- before it
pub record IsBadAt (bytes : List ℕ) (line : ℕ) : Type 0 where
  pub no_text : (r : Report) → IsTextOf bytes r → ⊥
  pub counted : 1 ≤ line
  pub before : (n : ℕ) → n < line → IsBeginning bytes n
  pub here : IsBeginning bytes line → ⊥

-- a reader answers the report whose text the bytes are, or the first line that is wrong; want of memory is free
abbrev pub GivesReport : List ℕ → Result Report ReportFault → Type 0
GivesReport bytes (Ok r) = IsTextOf bytes r
GivesReport bytes (Err (BadText line)) = IsBadAt bytes line
GivesReport bytes (Err NoMemory) = Unit {0}

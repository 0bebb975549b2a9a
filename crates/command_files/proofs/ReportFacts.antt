-- What the bytes of a report or of a printed journal give, and why they give nothing.
use Rattle.std.proofs.Common.{◌≡◌, ℕ, ◌^◌, ◌≤◌, ◌<◌, List, Option, Some, None, length, refl, sym, subst, ◌∙◌}
use Rattle.std.specs.Prelude.{Err, IfSome}
use Rattle.outside.specs.Shelf.{Told, bytes_of}
use Rattle.report_text.specs.declared.fault.ReportFault.{ReportFault}
use Rattle.report_text.specs.declared.fault.ReportFault.TheVariants as report_fault
use Rattle.report_text.specs.declared.value.Report.{Report}
use Rattle.report_text.specs.Reading.{IsBadAt, IsTextOf}
use Rattle.command_files.specs.declared.status.Status.{Status}
use Rattle.command_files.specs.declared.status.Status.TheVariants as status
use Rattle.online_check.specs.declared.any_report.AnyReport.{AnyReport}
use Rattle.online_check.specs.declared.any_report.AnyReport.TheVariants as any
use Rattle.online_check.specs.AnyReport.{GivesAnyReport, IsAnyBadAt, IsAnyReport, IsAnyText}
use Rattle.command_files.specs.Reports.{IsAnyReportOf, IsReportOf, IsJournalOf}
use Rattle.command_files.specs.FileCauses.{IsFileCause}
use Rattle.command_files.specs.ReportCauses.{IsBadReport, IsReportCause, ReportLimit}
use Rattle.command_files.specs.Faults.{IsStatusOfReport}
use Rattle.command_files.specs.Shelves.{HasBytes, KeepsFiles}
use Rattle.command_files.proofs.LimitFacts.{text_may}
use Rattle.command_files.proofs.ShelfFacts.{told_before}
use Rattle.live_text.specs.declared.value.Live.{Live}
use Rattle.live_text.specs.Reading.{GivesLive, IsBadAt as IsBadJournalAt, IsTextOf as IsJournalTextOf}

-- ---- a report

report_read : (old : Option Told) (name bytes lent : List ℕ) (report : Report) → HasBytes old name bytes → lent ≡ bytes → length bytes ≤ 2 ^ 30 → IsTextOf lent report →
    IfSome old (λ t. (length (bytes_of t name) ≤ 2 ^ 30) × IsTextOf (bytes_of t name) report)
report_read None name bytes lent report has e short text = tt
report_read (Some t) name bytes lent report has e short text = (subst (λ (xs : List ℕ). length xs ≤ 2 ^ 30) has short, subst (λ (xs : List ℕ). IsTextOf xs report) (e ∙ has) text)

pub report_of_file : (old : Option Told) (name bytes lent : List ℕ) (report : Report) → HasBytes old name bytes → lent ≡ bytes → length bytes ≤ 2 ^ 30 → IsTextOf lent report →
    IsReportOf old name report
report_of_file old name bytes lent report has e short text = record { fits = text.report; small = text.small; reads = report_read old name bytes lent report has e short text }

pub report_refused : (old : Option Told) (name bytes lent : List ℕ) (line : ℕ) → HasBytes old name bytes → lent ≡ bytes → length bytes ≤ 2 ^ 30 → IsBadAt lent line →
    IfSome old (λ t. IsBadReport IsBadAt (Some (bytes_of t name)) line)
report_refused None name bytes lent line has e short bad = tt
report_refused (Some t) name bytes lent line has e short bad = (subst (λ (xs : List ℕ). length xs ≤ 2 ^ 30) has short, subst (λ (xs : List ℕ). IsBadAt xs line) (e ∙ has) bad)

-- what was read is the text of this value
pub text_of_file : {R : Type 0} (IsText : List ℕ → R → Type 0) (old : Option Told) (name bytes lent : List ℕ) (report : R) → HasBytes old name bytes → lent ≡ bytes →
    length bytes ≤ 2 ^ 30 → IsText lent report → IfSome old (λ t. (length (bytes_of t name) ≤ 2 ^ 30) × IsText (bytes_of t name) report)
text_of_file IsText None name bytes lent report has e short text = tt
text_of_file IsText (Some t) name bytes lent report has e short text = (
  subst (λ (xs : List ℕ). length xs ≤ 2 ^ 30) has short,
  subst (λ (xs : List ℕ). IsText xs report) (e ∙ has) text,
)

any_report_fits : (bytes : List ℕ) (report : AnyReport) → IsAnyText bytes report → IsAnyReport report
any_report_fits bytes (any.Plan r) text = text.1.report
any_report_fits bytes (any.Online o) text = text.1.online

pub any_report_of_file : (old : Option Told) (name bytes lent : List ℕ) (report : AnyReport) → HasBytes old name bytes → lent ≡ bytes → length bytes ≤ 2 ^ 30 →
    IsAnyText lent report → IsAnyReportOf old name report
any_report_of_file old name bytes lent report has e short text =
    record { fits = any_report_fits lent report text; reads = text_of_file IsAnyText old name bytes lent report has e short text }

module _ (IsBad : List ℕ → ℕ → Type 0) (before now : ℕ) (old new : Option Told) (name bytes lent : List ℕ) where
  text_refused : (told : Option Told) (line : ℕ) → HasBytes told name bytes → lent ≡ bytes → length bytes ≤ 2 ^ 30 → IsBad lent line →
      IfSome told (λ t. IsBadReport IsBad (Some (bytes_of t name)) line)
  text_refused None line has e short bad = tt
  text_refused (Some t) line has e short bad = (subst (λ (xs : List ℕ). length xs ≤ 2 ^ 30) has short, subst (λ (xs : List ℕ). IsBad xs line) (e ∙ has) bad)

  -- why what was read is no text
  pub text_cause : (fault : ReportFault) (s : Status) → HasBytes old name bytes → lent ≡ bytes → length bytes ≤ 2 ^ 30 →
      ((line : ℕ) → fault ≡ report_fault.BadText line → IsBad lent line) → IsStatusOfReport fault s → IsReportCause IsBad before now old new name s
  text_cause (report_fault.BadText line) s has e short bad is =
      subst (λ (x : Status). IsReportCause IsBad before now old new name x) (sym is) (text_refused old line has e short (bad line refl))
  text_cause report_fault.NoMemory s has e short bad is = subst (λ (x : Status). IsReportCause IsBad before now old new name x) (sym is) tt

pub any_report_cause : (before now : ℕ) (old new : Option Told) (name bytes lent : List ℕ) (fault : ReportFault) (s : Status) → HasBytes old name bytes → lent ≡ bytes →
    length bytes ≤ 2 ^ 30 → GivesAnyReport lent (Err fault) → IsStatusOfReport fault s → IsReportCause IsAnyBadAt before now old new name s
any_report_cause before now old new name bytes lent fault s has e short bad is =
    text_cause IsAnyBadAt before now old new name bytes lent fault s has e short (λ line same. subst (λ (f : ReportFault). GivesAnyReport lent (Err f)) same bad) is

pub file_to_report : (IsBad : List ℕ → ℕ → Type 0) (before now : ℕ) (old new : Option Told) (name : List ℕ) (s : Status) → IsFileCause 1073741824 before now old new name s →
    IsReportCause IsBad before now old new name s
file_to_report IsBad before now old new name (status.Limit which count) (text, number, long) = (text_may which text, go old long) where
  go : (o : Option Told) → IfSome o (λ t. 1073741824 < length (bytes_of t name)) → IfSome o (λ t. ReportLimit 1073741824 (Some (bytes_of t name)) which count)
  go None h = tt
  go (Some t) h = (text, number, h)
file_to_report IsBad before now old new name (status.ReadFault count) h = h
file_to_report IsBad before now old new name status.NoMemory h = tt
file_to_report IsBad before now old new name status.Ok h = absurd h
file_to_report IsBad before now old new name status.No h = absurd h
file_to_report IsBad before now old new name status.Usage h = absurd h
file_to_report IsBad before now old new name status.UnknownPolicy h = absurd h
file_to_report IsBad before now old new name (status.BadTrace fault) h = absurd h
file_to_report IsBad before now old new name (status.BadWeights fault) h = absurd h
file_to_report IsBad before now old new name (status.BadReport line) h = absurd h
file_to_report IsBad before now old new name (status.BadScript line field) h = absurd h
file_to_report IsBad before now old new name (status.BadOrder fault) h = absurd h
file_to_report IsBad before now old new name (status.WriteFault count) h = absurd h
file_to_report IsBad before now old new name (status.WireFault port count) h = absurd h

-- ---- what is read after the trace and the weights

-- the bytes, where there are any, are the text of the report
abbrev pub IsTextIf : {R : Type 0} → (List ℕ → R → Type 0) → R → Option (List ℕ) → Type 0
IsTextIf IsText report None = Unit {0}
IsTextIf IsText report (Some text) = (length text ≤ 2 ^ 30) × IsText text report

pub report_before : (old mid : Option Told) (name : List ℕ) (report : Report) → KeepsFiles old mid → IsReportOf mid name report → IsReportOf old name report
report_before old mid name report keeps is = record { fits = is.fits; small = is.small; reads = told_before old mid (Some name) (IsTextIf IsTextOf report) keeps is.reads }

pub any_report_before : (old mid : Option Told) (name : List ℕ) (report : AnyReport) → KeepsFiles old mid → IsAnyReportOf mid name report → IsAnyReportOf old name report
any_report_before old mid name report keeps is = record { fits = is.fits; reads = told_before old mid (Some name) (IsTextIf IsAnyText report) keeps is.reads }

-- ---- a printed journal

pub journal_of_file : (old : Option Told) (name bytes lent : List ℕ) (live : Live) → HasBytes old name bytes → lent ≡ bytes → length bytes ≤ 2 ^ 30 → IsJournalTextOf lent live →
    IsJournalOf old name live
journal_of_file old name bytes lent live has e short text = record { fits = text.live; reads = text_of_file IsJournalTextOf old name bytes lent live has e short text }

pub journal_cause : (before now : ℕ) (old new : Option Told) (name bytes lent : List ℕ) (fault : ReportFault) (s : Status) → HasBytes old name bytes → lent ≡ bytes →
    length bytes ≤ 2 ^ 30 → GivesLive lent (Err fault) → IsStatusOfReport fault s → IsReportCause IsBadJournalAt before now old new name s
journal_cause before now old new name bytes lent fault s has e short bad is =
    text_cause IsBadJournalAt before now old new name bytes lent fault s has e short (λ line same. subst (λ (f : ReportFault). GivesLive lent (Err f)) same bad) is

pub journal_before : (old mid : Option Told) (name : List ℕ) (live : Live) → KeepsFiles old mid → IsJournalOf mid name live → IsJournalOf old name live
journal_before old mid name live keeps is = record { fits = is.fits; reads = told_before old mid (Some name) (IsTextIf IsJournalTextOf live) keeps is.reads }

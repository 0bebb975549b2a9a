-- The causes of the statuses of a command that reads files, and that its files are read to their ends.
use Rattle.std.proofs.Common.{◌≡◌, ◌≢◌, ℕ, ◌^◌, ◌≤◌, List, Option, Some, None, length, refl, sym, subst, ◌∙◌}
use Rattle.std.specs.Prelude.{IfSome}
use Rattle.command_words.specs.Jobs.{Job, order_name, report_name, script_name, trace_name}
use Rattle.command_words.specs.Jobs.Job.{audit_job, check_job, classes_job, compare_job, live_job, make_job, online_job, plan_job, record_job, replay_job, serve_job}
use Rattle.command_words.specs.Words.{Said}
use Rattle.coflow_units.specs.declared.limits.TheConstants.{MAX_REPORT}
use Rattle.coflow_units.specs.declared.quantity.Quantity.{Quantity}
use Rattle.outside.specs.declared.shelf.Place4.{Place4}
use Rattle.outside.specs.declared.shelf.Place4.TheVariants as place
use Rattle.outside.specs.Shelf.{Told, bytes_of}
use Rattle.command_files.specs.declared.status.Status.{Status}
use Rattle.command_files.specs.declared.status.Status.TheVariants as status
use Rattle.command_files.specs.Causes.{FileFailed, FilesBadReport, FilesGiveTable, FilesLimit, HasCauseInFiles, IsGiven}
use Rattle.command_files.specs.Causes.FileFailed.{at_input, at_report}
use Rattle.command_files.specs.Causes.FilesLimit.{in_input, in_report}
use Rattle.command_files.specs.FileCauses.{NameFailed, NameFailedIf}
use Rattle.command_files.specs.InputCauses.{HasInputCause, InputFailed, LimitCause}
use Rattle.command_files.specs.Limits.{most_bytes}
use Rattle.command_files.specs.ReportCauses.{IsBadReport, IsReportCause, ReportLimit}
use Rattle.command_files.specs.Shelves.{AllReadOut, AreReadOut, IsAsBefore, IsReadOut, IsReadOutIf, KeepsFiles, KeepsOthers, OfBoth, ReadsOut}
use Rattle.command_files.specs.Inputs.{bytes_if}
use Rattle.command_files.proofs.ShelfFacts.{both_and, both_joined, both_through, if_some, later_out, named_before, of_both, rose_before, still_before, told_before, with_both}
use Rattle.command_files.specs.Reports.{HasReportText}
use Rattle.command_files.proofs.ReportFacts.{IsTextIf}

-- ---- the causes of trace and weights

pub input_cause : (IsBad : List ℕ → ℕ → Type 0) (before now : ℕ) (old new : Option Told) (said : Said) (s : Status) →
    HasInputCause before now old new (trace_name said.job) said.weights said.unit s → HasCauseInFiles IsBad before now old new said s
input_cause IsBad before now old new said (status.BadTrace fault) h = h
input_cause IsBad before now old new said (status.BadWeights fault) h = h
input_cause IsBad before now old new said (status.Limit which count) (may, h) = (
  may said.job,
  if_some old (λ t. LimitCause (bytes_of t (trace_name said.job)) (bytes_if t said.weights) said.unit which count) (FilesLimit said which count) (λ t l. in_input l) h,
)
input_cause IsBad before now old new said (status.ReadFault count) (one, rose, failed) =
    (one, rose, of_both old new (InputFailed (trace_name said.job) said.weights) (FileFailed said) (λ a b f. at_input f) failed)
input_cause IsBad before now old new said status.NoMemory h = tt
input_cause IsBad before now old new said status.Ok h = absurd h
input_cause IsBad before now old new said status.No h = absurd h
input_cause IsBad before now old new said status.Usage h = absurd h
input_cause IsBad before now old new said status.UnknownPolicy h = absurd h
input_cause IsBad before now old new said (status.BadReport line) h = absurd h
input_cause IsBad before now old new said (status.BadScript line field) h = absurd h
input_cause IsBad before now old new said (status.BadOrder fault) h = absurd h
input_cause IsBad before now old new said (status.WriteFault count) h = absurd h
input_cause IsBad before now old new said (status.WireFault port count) h = absurd h

-- ---- a report that is read after the trace and the weights

module _ (at : Place4) (trace_differs : place.Trace ≢ at) (weights_differ : place.Weights ≢ at) (trace : List ℕ) where
  still_if : (n : Option (List ℕ)) (a b c : Told) → IsReadOutIf place.Weights n a b → KeepsOthers at b c → IsReadOutIf place.Weights n a c
  still_if None a b c (file, left) (files, lefts) = (files place.Weights weights_differ ∙ file, lefts place.Weights weights_differ ∙ left)
  still_if (Some n) a b c (file, left) (files, lefts) = (files place.Weights weights_differ ∙ file, lefts place.Weights weights_differ ∙ left)

  -- trace and weights are still read to their ends after a file is read at another place
  pub still_both : (weights : Option (List ℕ)) (old mid new : Option Told) → OfBoth old mid (AreReadOut trace weights) → OfBoth mid new (KeepsOthers at) →
      OfBoth old new (AreReadOut trace weights)
  still_both weights old mid new out others = both_through old mid new (AreReadOut trace weights) (KeepsOthers at) (AreReadOut trace weights) still out others
    where
      still : (a b c : Told) → AreReadOut trace weights a b → KeepsOthers at b c → AreReadOut trace weights a c
      still a b c ((file, left), out) (files, lefts) =
          ((files place.Trace trace_differs ∙ file, lefts place.Trace trace_differs ∙ left), still_if weights a b c out (files, lefts))

-- every file that is named is read to its end
pub all_out : (old new : Option Told) (said : Said) → OfBoth old new (AreReadOut (trace_name said.job) said.weights) →
    OfBoth old new (IsReadOutIf place.Report (report_name said.job)) → OfBoth old new (IsReadOutIf place.Script (script_name said.job)) → OfBoth old new (AllReadOut said)
all_out old new said out report script =
    both_joined old new (AreReadOut (trace_name said.job) said.weights)
    (λ a b. IsReadOutIf place.Report (report_name said.job) a b × IsReadOutIf place.Script (script_name said.job) a b) out
    (both_joined old new (IsReadOutIf place.Report (report_name said.job)) (IsReadOutIf place.Script (script_name said.job)) report script)

trace_not_report : place.Trace ≢ place.Report
trace_not_report e = cc

weights_not_report : place.Weights ≢ place.Report
weights_not_report e = cc

-- so they are after the report is read
pub still_both_out : (old mid new : Option Told) (said : Said) → OfBoth old mid (AreReadOut (trace_name said.job) said.weights) → OfBoth mid new (KeepsOthers place.Report) →
    OfBoth old new (AreReadOut (trace_name said.job) said.weights)
still_both_out old mid new said out others = still_both place.Report trace_not_report weights_not_report (trace_name said.job) said.weights old mid new out others

pub script_not_report : place.Script ≢ place.Report
script_not_report e = cc

-- every file of a job that reads nothing but trace and weights is read to its end
pub input_out : (old new : Option Told) (said : Said) → report_name said.job ≡ None → script_name said.job ≡ None →
    OfBoth old new (AreReadOut (trace_name said.job) said.weights) → OfBoth old new (IsAsBefore place.Report) → OfBoth old new (IsAsBefore place.Script) →
    OfBoth old new (AllReadOut said)
input_out old new said alone none out report script =
    all_out old new said out (subst (λ o. OfBoth old new (IsReadOutIf place.Report o)) (sym alone) report)
    (subst (λ o. OfBoth old new (IsReadOutIf place.Script o)) (sym none) script)

-- every file of `check` is read to its end
pub checked_out : (old mid new : Option Told) (said : Said) (trace name : List ℕ) → report_name said.job ≡ Some name → script_name said.job ≡ None → KeepsFiles old mid →
    OfBoth old mid (AreReadOut (trace_name said.job) said.weights) → OfBoth old mid (IsAsBefore place.Script) →
    OfBoth mid new (KeepsOthers place.Report) → OfBoth mid new (IsReadOut place.Report name) →
    OfBoth old new (ReadsOut (check_job trace name) said)
checked_out old mid new said trace name is none keeps out script others report =
    all_out old new said (still_both_out old mid new said out others)
    (subst (λ o. OfBoth old new (IsReadOutIf place.Report o)) (sym is) (later_out old mid new place.Report name keeps report))
    (subst (λ o. OfBoth old new (IsReadOutIf place.Script o)) (sym none) (still_before old mid new place.Script place.Report script_not_report script others))

-- a job that reads no order reads a report of at most 2^30 bytes, if any
report_bytes : (k : Job) → order_name k ≡ None → most_bytes k ≡ MAX_REPORT
report_bytes (plan_job trace) none = refl
report_bytes (check_job trace report) none = refl
report_bytes (make_job seed) none = refl
report_bytes (compare_job trace) none = refl
report_bytes (classes_job trace) none = refl
report_bytes (audit_job trace journal) none = refl
report_bytes (online_job trace) none = refl
report_bytes (live_job trace script) none = refl
report_bytes (serve_job trace order) none = let clash : Some order ≡ None = none in cc
report_bytes (replay_job trace) none = refl
report_bytes (record_job trace policy) none = refl

-- the other file of a job, which is longer than those that are read
pub long_other : (old mid : Option Told) (said : Said) (name : List ℕ) (which : Quantity) (count : ℕ) → report_name said.job ≡ Some name → KeepsFiles old mid →
    IfSome old (FilesGiveTable said) → IfSome mid (λ t. ReportLimit (most_bytes said.job) (Some (bytes_of t name)) which count) → IfSome old (FilesLimit said which count)
long_other old mid said name which count is keeps table h =
    with_both old (FilesGiveTable said) (λ t. ReportLimit (most_bytes said.job) (bytes_if t (Some name)) which count) (FilesLimit said which count)
    (λ t gives long. in_report gives (subst (λ (o : Option (List ℕ)). ReportLimit (most_bytes said.job) (bytes_if t o) which count) (sym is) long)) table
    (told_before old mid (Some name) (λ b. ReportLimit (most_bytes said.job) b which count) keeps h)

-- the same of one whose reading failed
pub other_failed : (old mid new : Option Told) (said : Said) (name : List ℕ) → report_name said.job ≡ Some name → KeepsFiles old mid → IfSome old (FilesGiveTable said) →
    OfBoth mid new (NameFailed name) → OfBoth old new (FileFailed said)
other_failed old mid new said name is keeps table failed =
    both_and old new (FilesGiveTable said) (NameFailedIf (report_name said.job)) (FileFailed said) (λ a b gives f. at_report gives f) table
    (subst (λ o. OfBoth old new (NameFailedIf o)) (sym is)
    (named_before old mid new (Some name) keeps (of_both mid new (NameFailed name) (NameFailedIf (Some name)) (λ a b h. h) failed)))

module _ (IsBad : List ℕ → ℕ → Type 0) (before mid_count now : ℕ) (old mid new : Option Told) (said : Said) (name : List ℕ) where
  bad_report : (line : ℕ) → report_name said.job ≡ Some name → order_name said.job ≡ None → KeepsFiles old mid → IfSome old (FilesGiveTable said) →
      IfSome mid (λ t. IsBadReport IsBad (Some (bytes_of t name)) line) → HasCauseInFiles IsBad before now old new said (status.BadReport line)
  bad_report line is none keeps table h = (
    subst IsGiven (sym is) tt,
    none,
    with_both old (FilesGiveTable said) (λ t. IsBadReport IsBad (bytes_if t (Some name)) line) (FilesBadReport IsBad said line)
        (λ t gives bad. (gives, subst (λ (o : Option (List ℕ)). IsBadReport IsBad (bytes_if t o) line) (sym is) bad)) table
        (told_before old mid (Some name) (λ b. IsBadReport IsBad b line) keeps h),
  )

  pub from_report : (s : Status) → report_name said.job ≡ Some name → order_name said.job ≡ None → before ≤ mid_count → KeepsFiles old mid → IfSome old (FilesGiveTable said) →
      IsReportCause IsBad mid_count now mid new name s → HasCauseInFiles IsBad before now old new said s
  from_report (status.BadReport line) is none le keeps table h = bad_report line is none keeps table h
  from_report (status.Limit which count) is none le keeps table (may, h) = (
    may said.job,
    long_other old mid said name which count is keeps table
        (subst (λ (n : ℕ). IfSome mid (λ t. ReportLimit n (Some (bytes_of t name)) which count)) (sym (report_bytes said.job none)) h),
  )
  from_report (status.ReadFault count) is none le keeps table (one, rose, failed) =
      (one, rose_before before mid_count now le rose, other_failed old mid new said name is keeps table failed)
  from_report status.NoMemory is none le keeps table h = tt
  from_report status.Ok is none le keeps table h = absurd h
  from_report status.No is none le keeps table h = absurd h
  from_report status.Usage is none le keeps table h = absurd h
  from_report status.UnknownPolicy is none le keeps table h = absurd h
  from_report (status.BadTrace fault) is none le keeps table h = absurd h
  from_report (status.BadWeights fault) is none le keeps table h = absurd h
  from_report (status.BadScript line field) is none le keeps table h = absurd h
  from_report (status.BadOrder fault) is none le keeps table h = absurd h
  from_report (status.WriteFault count) is none le keeps table h = absurd h
  from_report (status.WireFault port count) is none le keeps table h = absurd h

-- the files give a table, and the other one has the text of a report
pub text_good : {R : Type 0} (IsText : List ℕ → R → Type 0) (old mid : Option Told) (said : Said) (name : List ℕ) (report : R) → report_name said.job ≡ Some name →
    KeepsFiles old mid → IfSome old (FilesGiveTable said) → IfSome mid (λ t. (length (bytes_of t name) ≤ 2 ^ 30) × IsText (bytes_of t name) report) →
    IfSome old (λ t. FilesGiveTable said t × HasReportText IsText (bytes_if t (report_name said.job)))
text_good IsText old mid said name report is keeps table reads =
    with_both old (FilesGiveTable said) (λ t. IsTextIf IsText report (bytes_if t (Some name)))
    (λ t. FilesGiveTable said t × HasReportText IsText (bytes_if t (report_name said.job)))
    (λ t gives text. (gives, subst (λ (o : Option (List ℕ)). HasReportText IsText (bytes_if t o)) (sym is) (text.0, report, text.1))) table
    (told_before old mid (Some name) (IsTextIf IsText report) keeps reads)

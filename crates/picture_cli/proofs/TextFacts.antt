-- The text of a picture, by what came of drawing it.
use Rattle.std.proofs.Common.{◌≡◌, ◌≢◌, ℕ, inl, List, [], Option, Result, Ok, Err, sym, subst}
use Rattle.std.specs.Prelude.{◌⊎◌, IfErr, IfOk, IfSome, IsErrAnd, IsSomeAnd, OnOk}
use Rattle.command_files.specs.Inputs.{IsInput}
use Rattle.command_files.specs.Reports.{IsAnyReportOf}
use Rattle.command_files.specs.Shelves.{OfBoth, ReadsOut}
use Rattle.command_files.specs.Turns.{FilesInTurn}
use Rattle.command_files.specs.declared.status.Status.TheVariants as status
use Rattle.flow_table.specs.Table.{TableFacts}
use Rattle.online_check.specs.declared.any_report.AnyReport.{AnyReport}
use Rattle.outside.specs.Shelf.{Told}
use Rattle.picture_cli.specs.Complete.{AreGoodFiles, CallFor}
use Rattle.picture_cli.specs.Drawn.{HasPictureCause, ended}
use Rattle.picture_cli.specs.Picture.{DrawsReport, HasVerdictCause, IsRight, ReportDrawn, check_of}
use Rattle.picture_cli.specs.Policies.{HasNoPolicies}
use Rattle.picture_cli.specs.Status.{as_check}
use Rattle.picture_cli.specs.Words.{PoliciesSaid, ReportSaid}
use Rattle.picture_cli.specs.Words.PictureSaid.{of_policies, of_report}
use Rattle.picture_cli.specs.declared.status.PictureStatus.{PictureStatus}
use Rattle.picture_cli.specs.declared.status.PictureStatus.TheVariants as drawn
use Rattle.picture_cli.proofs.AnswerFacts.{ends_at_verdict, ends_drawn, past_in_turn, policies_end, policies_end_drawn}
use Rattle.picture_cli.proofs.PictureFacts.{cause_by, draws_by, verdict_calls}

-- ---- an error that was passed on

pub ended_by : {X : Type 0} (r : Result X PictureStatus) (s : PictureStatus) → IsErrAnd r (λ x. x ≡ s) → ended r ≡ s
ended_by (Ok text) s is = absurd is
ended_by (Err x) s is = is

pub err_by : {X : Type 0} (P : PictureStatus → Type 0) (r : Result X PictureStatus) (s : PictureStatus) → IsErrAnd r (λ x. x ≡ s) → P s → IfErr r P
err_by P (Ok text) s is holds = tt
err_by P (Err x) s is holds = subst P (sym is) holds

pub ends_by : {X : Type 0} (r : Result X PictureStatus) (s answer : PictureStatus) → IsErrAnd r (λ x. x ≡ s) → (s ≡ answer) ⊎ (s ≡ drawn.Ended status.NoMemory) →
    (ended r ≡ answer) ⊎ (ended r ≡ drawn.Ended status.NoMemory)
ends_by r s answer is = subst (λ (x : PictureStatus). (x ≡ answer) ⊎ (x ≡ drawn.Ended status.NoMemory)) (sym (ended_by r s is))

-- ---- of a report

module _ {X : Type 0} (items : X → List ℕ) (before now : ℕ) (old new : Option Told) (said : ReportSaid) (t : TableFacts) (ws : List ℕ) (report : AnyReport)
    (input : IsInput old said.trace said.weights said.unit t ws) (is : IsAnyReportOf old said.report report) where
  pub report_drawn : (r : Result X PictureStatus) → OnOk r (IsRight t ws said.slot_ms report) → IfOk r (λ text. DrawsReport t ws report said (items text)) →
      IfOk r (λ text. ReportDrawn old said (items text))
  report_drawn (Ok text) right draws = draws_by old said t ws report (items text) input is right draws
  report_drawn (Err s) right draws = tt

  pub report_complete : (r : Result X PictureStatus) → OnOk r (IsRight t ws said.slot_ms report) → IfOk r (λ text. DrawsReport t ws report said (items text)) →
      IfErr r (HasVerdictCause t ws report said) → (answer : PictureStatus) → IsSomeAnd old (CallFor (of_report said) answer) →
      (ended r ≡ answer) ⊎ (ended r ≡ drawn.Ended status.NoMemory)
  report_complete (Ok text) right draws cause answer call =
      inl (ends_drawn old said (items text) answer (draws_by old said t ws report (items text) input is right draws) call)
  report_complete (Err s) right draws cause answer call = ends_at_verdict before now old new said t ws report s answer input is cause call

  pub report_in_turn : (r : Result X PictureStatus) → IfErr r (HasVerdictCause t ws report said) → IfSome old (AreGoodFiles (of_report said)) →
      OfBoth old new (ReadsOut (check_of said).job (check_of said)) → OfBoth old new (FilesInTurn (check_of said) (as_check (ended r)))
  report_in_turn (Ok text) cause good out = past_in_turn old new (of_report said) status.Ok (λ f. f) good out
  report_in_turn (Err s) cause good out = past_in_turn old new (of_report said) (as_check s) (verdict_calls t ws report said s cause).0 good out

  pub report_cause : (r : Result X PictureStatus) → IfErr r (HasVerdictCause t ws report said) → IfErr r (HasPictureCause before now old new (of_report said))
  report_cause (Ok text) cause = tt
  report_cause (Err s) cause = cause_by before now old new said t ws report s input is cause

-- ---- of policies

pub policies_complete : {X : Type 0} (old : Option Told) (said : PoliciesSaid) (t : TableFacts) (ws : List ℕ) (r : Result X PictureStatus) →
    IsInput old said.trace said.weights said.unit t ws → OnOk r (t.flows ≢ []) → IfErr r (HasNoPolicies t) → (answer : PictureStatus) →
    IsSomeAnd old (CallFor (of_policies said) answer) → (ended r ≡ answer) ⊎ (ended r ≡ drawn.Ended status.NoMemory)
policies_complete old said t ws (Ok text) input some cause answer call = inl (policies_end_drawn old said t ws answer input some call)
policies_complete old said t ws (Err s) input some cause answer call = policies_end old said t ws s answer input cause call

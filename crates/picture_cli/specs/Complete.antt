-- When a picture is drawn, and how far the files were looked at.
use Rattle.std.specs.Prelude.{◌≢◌, ◌≤◌, List, [], Some}
use Rattle.outside.specs.Shelf.{Told}
use Rattle.picture.specs.declared.value.Bar.{Bar}
use Rattle.picture.specs.declared.value.TheConstants.{MAX_BARS}
use Rattle.picture.specs.Bars.{IsBars, bar_count}
use Rattle.command_files.specs.Causes.{FilesGiveTable}
use Rattle.command_files.specs.Reports.{IsReportText}
use Rattle.command_files.specs.Inputs.{bytes_if}
use Rattle.command_files.specs.Ends.{IsWriteFault}
use Rattle.picture_cli.specs.Picture.{HasNoPicture, IsPlan, IsRight, IsWrong, Judged, check_of, slots_of, window_of}
use Rattle.picture_cli.specs.Policies.{Given, HasNoPolicies, compare_of}
use Rattle.picture_cli.specs.Words.{PictureSaid, PoliciesSaid, ReportSaid}
use Rattle.picture_cli.specs.Words.PictureSaid.{of_policies, of_report}
use Rattle.picture_cli.specs.declared.status.PictureStatus.{PictureStatus}
use Rattle.picture_cli.specs.declared.status.PictureStatus.TheVariants.{Ended, No, NoSlots, Ok, TooManyBars, Usage}

-- the texts of all files that are read have no fault, and they are within the limits
abbrev pub AreGoodFiles : PictureSaid → Told → Type 0
AreGoodFiles (of_report said) t =
    FilesGiveTable (check_of said) t × IsReportText (bytes_if t (Some said.report))
AreGoodFiles (of_policies said) t = FilesGiveTable (compare_of said) t

-- the report of the files is right, the window has one of its slots, and the picture of a plan has no more bars than it
-- may have
pub record CanBeDrawn (said : ReportSaid) (t : Told) : Type 0 where
  pub judged : Judged (Some t) said IsRight
  pub some : (window_of said judged.report).first ≤ (window_of said judged.report).last
  pub few : IsPlan judged.report → (rows : List (List Bar)) →
      IsBars judged.table.flows (slots_of judged.report) judged.table.ports (window_of said judged.report) rows →
      bar_count rows ≤ MAX_BARS

-- The status says what the report of good files calls for: the answer of its check is no, or it is right and the window
-- has none of its slots, or too many bars, or it can be drawn.
abbrev pub IsReportAnswer : ReportSaid → Told → PictureStatus → Type 0
IsReportAnswer said t Ok = CanBeDrawn said t
IsReportAnswer said t No = Judged (Some t) said IsWrong
IsReportAnswer said t (NoSlots first last) =
    (j : Judged (Some t) said IsRight) × HasNoPicture j.table j.report said (NoSlots first last)
IsReportAnswer said t (TooManyBars bars) =
    (j : Judged (Some t) said IsRight) × HasNoPicture j.table j.report said (TooManyBars bars)
IsReportAnswer said t status = ⊥

-- The status says what the table of good files calls for: its policies can be drawn where it has units.
abbrev pub IsPoliciesAnswer : PoliciesSaid → Told → PictureStatus → Type 0
IsPoliciesAnswer said t Ok = Given (Some t) said (λ table ws. table.flows ≢ [])
IsPoliciesAnswer said t (NoSlots first last) =
    Given (Some t) said (λ table ws. HasNoPolicies table (NoSlots first last))
IsPoliciesAnswer said t status = ⊥

-- the status says what good files call for
abbrev pub IsAnswer : PictureSaid → Told → PictureStatus → Type 0
IsAnswer (of_report said) t answer = IsReportAnswer said t answer
IsAnswer (of_policies said) t answer = IsPoliciesAnswer said t answer

-- the files are good, and the status says what they call for
abbrev pub CallFor : PictureSaid → PictureStatus → Told → Type 0
CallFor said answer t = AreGoodFiles said t × IsAnswer said t answer

-- the status comes after all files were read
abbrev pub IsPastFiles : PictureStatus → Type 0
IsPastFiles Usage = ⊥
IsPastFiles (Ended s) = IsWriteFault s
IsPastFiles status = Unit {0}

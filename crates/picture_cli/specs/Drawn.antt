-- What was drawn for the words of a command line, and why nothing was.
use Rattle.std.specs.Prelude.{ℕ, List, Option, Result, Ok, Err}
use Rattle.command_files.specs.Causes.{HasCauseInFiles}
use Rattle.command_files.specs.Ends.{IsWriteFault}
use Rattle.command_words.specs.Words.{Said}
use Rattle.online_check.specs.AnyReport.{IsAnyBadAt}
use Rattle.outside.specs.Shelf.{Told}
use Rattle.picture_cli.specs.Picture.{HasNoPicture, IsRight, IsWrong, Judged, ReportDrawn, check_of}
use Rattle.picture_cli.specs.Policies.{DrawsPolicies, Given, HasNoPolicies, compare_of}
use Rattle.picture_cli.specs.Words.{PictureSaid, PoliciesSaid, ReportSaid}
use Rattle.picture_cli.specs.Words.PictureSaid.{of_policies, of_report}
use Rattle.picture_cli.specs.declared.status.PictureStatus.{PictureStatus}
use Rattle.picture_cli.specs.declared.status.PictureStatus.TheVariants as drawn

-- the job of `sincronia` that reads the same files
abbrev pub job_for : PictureSaid → Said
job_for (of_report said) = check_of said
job_for (of_policies said) = compare_of said

-- the text is that of the picture that is asked for
abbrev pub Draws : Option Told → PictureSaid → List ℕ → Type 0
Draws told (of_report said) text = ReportDrawn told said text
Draws told (of_policies said) text = Given told said (λ t ws. DrawsPolicies t ws text)

-- The cause of a status that comes before anything of the picture of a report is written.
-- The shelf had and has these counts of faults, and told and tells these files.
abbrev pub HasReportCause : ℕ → ℕ → Option Told → Option Told → ReportSaid → PictureStatus → Type 0
HasReportCause before now old new said drawn.No = Judged old said IsWrong
HasReportCause before now old new said (drawn.NoSlots first last) =
    (j : Judged old said IsRight) × HasNoPicture j.table j.report said (drawn.NoSlots first last)
HasReportCause before now old new said (drawn.TooManyBars bars) =
    (j : Judged old said IsRight) × HasNoPicture j.table j.report said (drawn.TooManyBars bars)
HasReportCause before now old new said (drawn.Ended s) =
    HasCauseInFiles IsAnyBadAt before now old new (check_of said) s
HasReportCause before now old new said s = ⊥

-- the cause of a status that comes before anything of the picture of policies is written
abbrev pub HasPoliciesCause : ℕ → ℕ → Option Told → Option Told → PoliciesSaid → PictureStatus → Type 0
HasPoliciesCause before now old new said (drawn.NoSlots first last) =
    Given old said (λ t ws. HasNoPolicies t (drawn.NoSlots first last))
HasPoliciesCause before now old new said (drawn.Ended s) =
    HasCauseInFiles IsAnyBadAt before now old new (compare_of said) s
HasPoliciesCause before now old new said s = ⊥

-- the cause of a status that comes before anything is written
abbrev pub HasPictureCause : ℕ → ℕ → Option Told → Option Told → PictureSaid → PictureStatus → Type 0
HasPictureCause before now old new (of_report said) s = HasReportCause before now old new said s
HasPictureCause before now old new (of_policies said) s = HasPoliciesCause before now old new said s

-- there was a picture to be written
abbrev pub HasPicture : PictureStatus → Type 0
HasPicture drawn.Ok = Unit {0}
HasPicture (drawn.Ended s) = IsWriteFault s
HasPicture s = ⊥

-- how the job ends, unless the sink fails: by the error, where there is no text
abbrev pub ended : {X : Type 0} → Result X PictureStatus → PictureStatus
ended (Ok text) = drawn.Ok
ended (Err status) = status

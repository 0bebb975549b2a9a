-- Exit codes, and the line on standard error.
use Rattle.std.specs.Prelude.{◌≡◌, ℕ, ◌++◌, List, [], codes, decimal}
use Rattle.picture.specs.declared.value.BarsFault.{BarsFault}
use Rattle.picture.specs.declared.value.BarsFault.TheVariants as bars_fault
use Rattle.command_files.specs.Code.{code_of as code_of_status}
use Rattle.command_files.specs.Messages.{status_text}
use Rattle.command_files.specs.declared.status.Status.{Status}
use Rattle.command_files.specs.declared.status.Status.TheVariants as status
use Rattle.picture_cli.specs.declared.status.PictureStatus.{PictureStatus}
use Rattle.picture_cli.specs.declared.status.PictureStatus.TheVariants.{Ok, No, Usage, NoSlots, TooManyBars, Ended}

-- the exit code of a status
abbrev pub code_of : PictureStatus → ℕ
code_of Ok = 0
code_of No = 1
code_of Usage = 2
code_of (NoSlots first last) = 2
code_of (TooManyBars bars) = 7
code_of (Ended s) = code_of_status s

-- the status says the fault
abbrev pub IsStatusOfBars : BarsFault → PictureStatus → Type 0
IsStatusOfBars (bars_fault.TooMany bars) s = s ≡ TooManyBars bars
IsStatusOfBars bars_fault.NoMemory s = s ≡ Ended status.NoMemory

-- the status of `sincronia check` after the same calls to shelf and sink: its own, or that of a verdict
abbrev pub as_check : PictureStatus → Status
as_check Ok = status.Ok
as_check No = status.No
as_check Usage = status.Usage
as_check (NoSlots first last) = status.Ok
as_check (TooManyBars bars) = status.Ok
as_check (Ended s) = s

-- what is printed on standard error behind the program's name
abbrev pub line_of : PictureStatus → List ℕ
line_of Ok = []
line_of No = codes "report: not right for this trace and these weights; sincronia check says why"
line_of Usage = codes "usage: sincronia_picture TRACE REPORT|--policies [--weights FILE] [--unit MEGABYTES] " ++
    codes "[--from SLOT] [--to SLOT] [--side in|out] [--slot-ms MILLISECONDS]"
line_of (NoSlots first last) = codes "window: no slot from " ++ decimal first ++ codes " to " ++ decimal last
line_of (TooManyBars bars) = codes "limit: bars " ++ decimal bars ++
    codes ", at most 262144 are drawn; choose a window with --from and --to"
line_of (Ended s) = status_text s

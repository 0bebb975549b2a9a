-- Exit codes, and the line on standard error.
use Rattle.std.specs.Prelude.{ℕ, ◌++◌, List, [], codes}
use Rattle.command_files.specs.Code.{code_of as code_of_status}
use Rattle.command_files.specs.Messages.{status_text}
use Rattle.command_files.specs.declared.status.Status.{Status}
use Rattle.command_files.specs.declared.status.Status.TheVariants as status
use Rattle.stats_cli.specs.declared.status.StatsStatus.{StatsStatus}
use Rattle.stats_cli.specs.declared.status.StatsStatus.TheVariants.{Ended, No, Ok, Usage}

-- the exit code of a status
abbrev pub code_of : StatsStatus → ℕ
code_of Ok = 0
code_of No = 1
code_of Usage = 2
code_of (Ended s) = code_of_status s

-- the status of `sincronia check` after the same calls to shelf and sink
abbrev pub as_check : StatsStatus → Status
as_check Ok = status.Ok
as_check No = status.No
as_check Usage = status.Usage
as_check (Ended s) = s

-- what is printed on standard error behind the program's name
abbrev pub line_of : StatsStatus → List ℕ
line_of Ok = []
line_of No = codes "report: not right for this trace and these weights; sincronia check says why"
line_of Usage = codes "usage: sincronia_stats TRACE REPORT [--weights FILE] [--unit MEGABYTES] " ++
    codes "[--slot-ms MILLISECONDS] [--csv]"
line_of (Ended s) = status_text s

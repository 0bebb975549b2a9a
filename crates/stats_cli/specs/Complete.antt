-- When numbers are told, and how far the files were looked at.
use Rattle.std.specs.Prelude.{Some}
use Rattle.outside.specs.Shelf.{Told}
use Rattle.command_files.specs.Causes.{FilesGiveTable}
use Rattle.command_files.specs.Ends.{IsWriteFault}
use Rattle.command_files.specs.Inputs.{bytes_if}
use Rattle.command_files.specs.Reports.{IsReportText}
use Rattle.stats_cli.specs.Numbers.{GivesRight, GivesWrong, check_of}
use Rattle.stats_cli.specs.Words.{StatsSaid}
use Rattle.stats_cli.specs.declared.status.StatsStatus.{StatsStatus}
use Rattle.stats_cli.specs.declared.status.StatsStatus.TheVariants.{Ended, No, Ok, Usage}

-- the texts of all files that are read have no fault, and they are within the limits
abbrev pub AreGoodFiles : StatsSaid → Told → Type 0
AreGoodFiles said t = FilesGiveTable (check_of said) t × IsReportText (bytes_if t (Some said.report))

-- The status says what the report of good files calls for: the check accepts it or not.
abbrev pub IsAnswer : StatsSaid → Told → StatsStatus → Type 0
IsAnswer said t Ok = GivesRight (Some t) said
IsAnswer said t No = GivesWrong (Some t) said
IsAnswer said t status = ⊥

-- the files are good, and the status says what their report calls for
abbrev pub CallFor : StatsSaid → StatsStatus → Told → Type 0
CallFor said answer t = AreGoodFiles said t × IsAnswer said t answer

-- the status comes after all files were read
abbrev pub IsPastFiles : StatsStatus → Type 0
IsPastFiles Usage = ⊥
IsPastFiles (Ended s) = IsWriteFault s
IsPastFiles status = Unit {0}

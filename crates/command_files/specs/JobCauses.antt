-- What is wrong with the files of a command, where its job says what its other file is.
use Rattle.std.specs.Prelude.{ℕ, List, Option}
use Rattle.command_words.specs.Jobs.{Job}
use Rattle.command_words.specs.Jobs.Job.{audit_job, check_job, classes_job, compare_job, live_job, make_job, online_job, plan_job, record_job, replay_job, serve_job}
use Rattle.command_words.specs.Words.{Said}
use Rattle.live_text.specs.Reading.{IsBadAt}
use Rattle.outside.specs.Shelf.{Told}
use Rattle.online_check.specs.AnyReport.{IsAnyBadAt}
use Rattle.command_files.specs.declared.status.Status.{Status}
use Rattle.command_files.specs.Causes.{FilesBadReport, HasCauseInFiles}

-- Where a text of the other file of a job is bad. That of `audit` is a printed journal, and that of `serve` an
-- order, which is bad in ways of its own. All others are reports: of an online run where the first line is that of one,
-- and else of a plan.
abbrev pub IsBadFor : Job → List ℕ → ℕ → Type 0
IsBadFor (plan_job trace) = IsAnyBadAt
IsBadFor (check_job trace report) = IsAnyBadAt
IsBadFor (make_job seed) = IsAnyBadAt
IsBadFor (compare_job trace) = IsAnyBadAt
IsBadFor (classes_job trace) = IsAnyBadAt
IsBadFor (audit_job trace journal) = IsBadAt
IsBadFor (online_job trace) = IsAnyBadAt
IsBadFor (live_job trace script) = IsAnyBadAt
IsBadFor (serve_job trace order) = λ text line. ⊥
IsBadFor (replay_job trace) = IsAnyBadAt
IsBadFor (record_job trace policy) = IsAnyBadAt

-- the files give a table, and this is the first line of the other file that no such text has
abbrev pub FilesReportFault : Said → ℕ → Told → Type 0
FilesReportFault said line t = FilesBadReport (IsBadFor said.job) said line t

-- the cause of a status that comes before anything is written, in a command that reads files, where its other file is bad
-- in this way
abbrev pub HasFilesCause : ℕ → ℕ → Option Told → Option Told → Said → Status → Type 0
HasFilesCause before now old new said status = HasCauseInFiles (IsBadFor said.job) before now old new said status

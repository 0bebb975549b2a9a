-- The files of a command that have no fault.
use Rattle.command_words.specs.Jobs.{Job, report_name}
use Rattle.command_words.specs.Jobs.Job.{audit_job, check_job, classes_job, compare_job, live_job, make_job, online_job, plan_job, record_job, replay_job, serve_job}
use Rattle.command_words.specs.Words.{Said}
use Rattle.outside.specs.Shelf.{Told}
use Rattle.command_files.specs.Causes.{FilesGiveOrder, FilesGiveScript, FilesGiveTable}
use Rattle.command_files.specs.Inputs.{bytes_if}
use Rattle.command_files.specs.Reports.{IsJournalText, IsReportText}

-- the texts of all files that the command reads have no fault, and they are within the limits
abbrev pub HasGoodFiles : Job → Said → Told → Type 0
HasGoodFiles (plan_job trace) said t = FilesGiveTable said t
HasGoodFiles (check_job trace report) said t = FilesGiveTable said t × IsReportText (bytes_if t (report_name said.job))
HasGoodFiles (make_job seed) said t = Unit {0}
HasGoodFiles (compare_job trace) said t = FilesGiveTable said t
HasGoodFiles (classes_job trace) said t = FilesGiveTable said t
HasGoodFiles (audit_job trace journal) said t =
    FilesGiveTable said t × IsJournalText (bytes_if t (report_name said.job))
HasGoodFiles (online_job trace) said t = FilesGiveTable said t
HasGoodFiles (live_job trace script) said t = FilesGiveScript said t
HasGoodFiles (serve_job trace order) said t = FilesGiveOrder said t
HasGoodFiles (replay_job trace) said t = FilesGiveTable said t
HasGoodFiles (record_job trace policy) said t = FilesGiveTable said t

-- What a yes on a report says, and that the report of a check is good.
use Rattle.std.proofs.Common.{◌≡◌, ℕ, ◌≤◌, List, Option, Some, arith}
use Rattle.std.specs.Prelude.{IfSome, true}
use Rattle.command_words.specs.Jobs.{report_name}
use Rattle.command_words.specs.Jobs.Job.{check_job}
use Rattle.command_words.specs.Words.{Said}
use Rattle.dual_cert.proofs.DualLaw.{bound_law}
use Rattle.coflow_units.specs.Completion.{cost}
use Rattle.coflow_units.specs.Flows.{Instance}
use Rattle.flow_table.specs.Table.{instance_of}
use Rattle.outside.specs.Shelf.{Told}
use Rattle.online_check.specs.Sound.{IsSoundOnline}
use Rattle.online_text.specs.declared.value.Online.{Online}
use Rattle.release_bound.specs.Release.{IsReleased}
use Rattle.online_check.specs.declared.any_report.AnyReport.{AnyReport}
use Rattle.online_check.specs.declared.any_report.AnyReport.TheVariants as any
use Rattle.online_check.specs.AnyReport.{IsAnyText}
use Rattle.online_check.specs.Judged.{IsRight}
use Rattle.command_jobs.specs.Check.{BoundsSchedules, CheckOf, WritesYes}
use Rattle.command_files.specs.Arrivals.{arrival_of}
use Rattle.command_files.specs.Causes.{FilesGiveTable}
use Rattle.command_files.specs.GoodFiles.{HasGoodFiles}
use Rattle.command_files.specs.Reports.{IsAnyReportOf}
use Rattle.command_files.specs.Shelves.{KeepsFiles}
use Rattle.command_files.specs.Written.{Appends}
use Rattle.command_files.proofs.CauseFacts.{text_good}

-- ---- a yes

-- no schedule that serves nobody before its arrival costs less than the total of a right online run
abbrev pub OnlineLaw : Type 0
OnlineLaw = (i : Instance) (arrival : ℕ → ℕ) (ids : List ℕ) (o : Online) (slots : List (List ℕ)) → IsSoundOnline i arrival ids o → IsReleased i.flows arrival slots →
    o.total ≤ cost i.flows i.weight i.coflows slots

-- the total of a right report bounds the schedules that it speaks of
bounds_of : OnlineLaw → (i : Instance) (arrival : ℕ → ℕ) (ids : List ℕ) (report : AnyReport) → IsRight i arrival ids report → BoundsSchedules i arrival report
bounds_of law i arrival ids (any.Plan r) sound = λ slots valid. omega (arith, sound.bound_is_low, bound_law i _ slots sound.certificate sound.feasible valid)
bounds_of law i arrival ids (any.Online o) sound = λ slots released. law i arrival ids o slots sound released

pub sure_yes : OnlineLaw → (told : Option Told) (said : Said) (old new : Option (List ℕ)) (text : List ℕ) → CheckOf told said true text → Appends old new text →
    WritesYes told said old new
sure_yes law told said old new text checks written = record {
  text = text;
  checks = checks;
  right = checks.judged.0;
  bounds = bounds_of law (instance_of checks.table checks.weights) (arrival_of checks.table said) checks.table.ids checks.report checks.judged.0;
  written = written;
}

-- ---- the report of a check is good

pub report_good : (old mid : Option Told) (said : Said) (trace name : List ℕ) (report : AnyReport) → report_name said.job ≡ Some name → KeepsFiles old mid →
    IfSome old (FilesGiveTable said) → IsAnyReportOf mid name report → IfSome old (HasGoodFiles (check_job trace name) said)
report_good old mid said trace name report is keeps table of = text_good IsAnyText old mid said name report is keeps table of.reads

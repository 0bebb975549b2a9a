-- The numbers of the schedule of a report.
use Rattle.std.specs.Prelude.{◌≡◌, ℕ, Bool, false, true, List, Option, slice_index}
use Rattle.flow_table.specs.Table.{TableFacts, instance_of}
use Rattle.outside.specs.Shelf.{Told}
use Rattle.class_rates.specs.declared.fold.Fold.TheVariants.{Count}
use Rattle.cert_check.specs.declared.verdict.Reason.TheVariants.{RatioBroken}
use Rattle.cert_check.specs.declared.verdict.Verdict.{Verdict}
use Rattle.cert_check.specs.declared.verdict.Verdict.TheVariants as verdict
use Rattle.cert_check.specs.Reasons.{IsVerdict}
use Rattle.coflow_stats.specs.declared.value.Finished.{Finished}
use Rattle.coflow_stats.specs.declared.value.Stats.{Stats}
use Rattle.coflow_stats.specs.Finished.{AreFinished}
use Rattle.coflow_stats.specs.Rows.{rows_text}
use Rattle.coflow_stats.specs.Stats.{IsStats}
use Rattle.coflow_stats.specs.Text.{stats_text}
use Rattle.online_check.specs.declared.any_report.AnyReport.{AnyReport}
use Rattle.online_check.specs.declared.any_report.AnyReport.TheVariants.{Online, Plan}
use Rattle.online_check.specs.declared.verdict.OnlineReason.{OnlineReason}
use Rattle.online_check.specs.AnyReport.{IsAnyBadAt}
use Rattle.online_check.specs.Arrivals.{arrivals_in}
use Rattle.online_check.specs.Reasons.{IsFirstOnlineReason}
use Rattle.online_check.specs.Sound.{IsSoundOnline}
use Rattle.command_files.specs.Causes.{HasCauseInFiles}
use Rattle.command_files.specs.Ends.{IsWriteFault}
use Rattle.command_files.specs.Inputs.{IsInput}
use Rattle.command_files.specs.Reports.{IsAnyReportOf}
use Rattle.command_files.specs.declared.status.Status.TheVariants as status
use Rattle.command_words.specs.Jobs.Job.{check_job}
use Rattle.command_words.specs.Words.{Said}
use Rattle.stats_cli.specs.Rests.{RestsOn, slots_of, totals_of}
use Rattle.stats_cli.specs.Words.{StatsSaid, ms_in}
use Rattle.stats_cli.specs.declared.status.StatsStatus.{StatsStatus}
use Rattle.stats_cli.specs.declared.status.StatsStatus.TheVariants.{Ended, No, Ok}

-- what `sincronia check` would be said with the same files
abbrev pub check_of : StatsSaid → Said
check_of said = record {
  job = check_job said.trace said.report;
  weights = said.weights;
  unit = said.unit;
  agents = 4;
  epoch = 1024;
  run = 1;
  slot_ms = said.slot_ms;
  classes = 8;
  fold = Count;
}

-- the slot after which each coflow may be served, where a slot takes so many milliseconds; a plan knows no arrivals
abbrev pub arrival_in : TableFacts → ℕ → AnyReport → ℕ → ℕ
arrival_in t slot_ms (Plan r) = λ coflow. 0
arrival_in t slot_ms (Online o) = slice_index (arrivals_in t slot_ms)

-- the report is that of an online run
abbrev pub IsRun : AnyReport → Type 0
IsRun (Plan r) = ⊥
IsRun (Online o) = Unit {0}

-- the verdict is yes, or a no by the ratio of cost to bound alone
abbrev pub IsYesButForRatio : Verdict → Type 0
IsYesButForRatio verdict.Yes = Unit {0}
IsYesButForRatio (verdict.No (RatioBroken cost most)) = Unit {0}
IsYesButForRatio (verdict.No reason) = ⊥

-- the check finds the report right, or that of a plan right but for the ratio
abbrev pub IsAccepted : TableFacts → List ℕ → ℕ → AnyReport → Type 0
IsAccepted t ws slot_ms (Plan r) =
    (v : Verdict) × IsVerdict (instance_of t ws) t.ids r v × IsYesButForRatio v
IsAccepted t ws slot_ms (Online o) =
    IsSoundOnline (instance_of t ws) (slice_index (arrivals_in t slot_ms)) t.ids o

-- the check finds another reason why it is not right
abbrev pub IsRefused : TableFacts → List ℕ → ℕ → AnyReport → Type 0
IsRefused t ws slot_ms (Plan r) =
    (v : Verdict) × IsVerdict (instance_of t ws) t.ids r v × (IsYesButForRatio v → ⊥)
IsRefused t ws slot_ms (Online o) = (reason : OnlineReason) ×
    IsFirstOnlineReason (instance_of t ws) (slice_index (arrivals_in t slot_ms)) t.ids o reason

-- the text is that of the coflows where rows are asked for, and else that of the numbers of the schedule
abbrev pub IsTextBy : Bool → StatsSaid → AnyReport → List Finished → List ℕ → Type 0
IsTextBy true said report coflows text = text ≡ rows_text said.unit coflows
IsTextBy false said report coflows text = (s : Stats) ×
    IsStats said.unit (totals_of report) (slots_of report) coflows s × (text ≡ stats_text s (ms_in said))

-- The text tells the numbers of the schedule of an accepted report: of its coflows, from their arrivals to their
-- completions in the schedule.
pub record AreNumbers (t : TableFacts) (ws : List ℕ) (said : StatsSaid) (report : AnyReport) (text : List ℕ) : Type 0
  where
    pub accepted : IsAccepted t ws said.slot_ms report
    pub rests : RestsOn (instance_of t ws) (arrival_in t said.slot_ms report) report
    pub coflows : List Finished
    pub coflows_are : AreFinished t ws (arrival_in t said.slot_ms report) (slots_of report) coflows
    pub text_is : IsTextBy said.csv said report coflows text

-- why there is no such text: the check refuses the report, or no memory was to be had
abbrev pub HasNoNumbers : TableFacts → List ℕ → StatsSaid → AnyReport → StatsStatus → Type 0
HasNoNumbers t ws said report No = IsRefused t ws said.slot_ms report
HasNoNumbers t ws said report (Ended s) = s ≡ status.NoMemory
HasNoNumbers t ws said report s = ⊥

-- the instance that the files give, and the report
pub record Given (told : Option Told) (said : StatsSaid) : Type 0 where
  pub table : TableFacts
  pub list : List ℕ
  pub input : IsInput told said.trace said.weights said.unit table list
  pub report : AnyReport
  pub report_is : IsAnyReportOf told said.report report

-- the files give a report that the check accepts
abbrev pub GivesRight : Option Told → StatsSaid → Type 0
GivesRight told said = (g : Given told said) × IsAccepted g.table g.list said.slot_ms g.report

-- the files give a report that it refuses
abbrev pub GivesWrong : Option Told → StatsSaid → Type 0
GivesWrong told said = (g : Given told said) × IsRefused g.table g.list said.slot_ms g.report

-- the text tells the numbers of the schedule that the files give
pub record TellsNumbers (told : Option Told) (said : StatsSaid) (text : List ℕ) : Type 0 where
  pub given : Given told said
  pub numbers : AreNumbers given.table given.list said given.report text

-- The cause of a status that comes before anything is written.
-- The shelf had and has these counts of faults, and told and tells these files.
abbrev pub HasStatsCause : ℕ → ℕ → Option Told → Option Told → StatsSaid → StatsStatus → Type 0
HasStatsCause before now old new said No = GivesWrong old said
HasStatsCause before now old new said (Ended s) = HasCauseInFiles IsAnyBadAt before now old new (check_of said) s
HasStatsCause before now old new said s = ⊥

-- there were numbers to be written
abbrev pub HasNumbers : StatsStatus → Type 0
HasNumbers Ok = Unit {0}
HasNumbers (Ended s) = IsWriteFault s
HasNumbers s = ⊥

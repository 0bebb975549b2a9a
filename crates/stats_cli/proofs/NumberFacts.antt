-- What an accepted report gives its numbers, and the causes of the statuses of the program that tells them.
use Rattle.std.proofs.Common.{ℕ, ◌^◌, ◌≤◌, List, Option, length, sym, subst, arith}
use Rattle.std.specs.Prelude.{All}
use Rattle.coflow_units.specs.Completion.{cost}
use Rattle.coflow_units.specs.Flows.{Instance}
use Rattle.coflow_units.specs.Schedule.{IsValid}
use Rattle.cert_check.proofs.SlotSteps.{runs_kept}
use Rattle.cert_check.specs.declared.verdict.Reason.TheVariants.{RatioBroken}
use Rattle.cert_check.specs.declared.verdict.Verdict.{Verdict}
use Rattle.cert_check.specs.declared.verdict.Verdict.TheVariants as verdict
use Rattle.cert_check.specs.Reasons.{IsVerdict}
use Rattle.cert_check.specs.Sound.{IsSound}
use Rattle.dual_cert.proofs.DualLaw.{bound_law}
use Rattle.flow_table.specs.Table.{IsTable, TableFacts, instance_of}
use Rattle.outside.specs.Shelf.{Told}
use Rattle.online_check.specs.declared.any_report.AnyReport.{AnyReport}
use Rattle.online_check.specs.declared.any_report.AnyReport.TheVariants.{Online, Plan}
use Rattle.online_check.specs.AnyReport.{IsAnyBadAt, IsAnyReport}
use Rattle.online_check.specs.Sound.{IsSoundOnline}
use Rattle.online_check.proofs.DoneSteps.{runs_kept as online_kept}
use Rattle.online_text.specs.declared.value.Online.{Online as Run}
use Rattle.release_bound.specs.Release.{IsReleased}
use Rattle.report_text.specs.declared.value.Report.{Report}
use Rattle.report_text.specs.Report.{IsReport}
use Rattle.schedule_model.proofs.CostSums.{parts_small}
use Rattle.schedule_model.proofs.ValidSteps.{valid_names}
use Rattle.schedule_model.specs.RunList.{IsKept, NamesFlows}
use Rattle.command_files.specs.Causes.{HasCauseInFiles}
use Rattle.command_files.specs.Ends.{IsReadFault, IsWriteFault}
use Rattle.command_files.specs.Inputs.{IsInput}
use Rattle.command_files.specs.Reports.{IsAnyReportOf}
use Rattle.stats_cli.specs.Numbers.{AreNumbers, Given, HasNoNumbers, HasStatsCause, IsAccepted, IsYesButForRatio, TellsNumbers, arrival_in, check_of}
use Rattle.stats_cli.specs.Rests.{HasRightNumbers, IsScheduleBeside, RestsOn, runs_in, slots_of, totals_of}
use Rattle.stats_cli.specs.Status.{as_check}
use Rattle.stats_cli.specs.Words.{StatsSaid}
use Rattle.stats_cli.specs.declared.status.StatsStatus.{StatsStatus}
use Rattle.stats_cli.specs.declared.status.StatsStatus.TheVariants as stats
use Rattle.stats_cli.proofs.RatioFacts.{right_numbers}

-- ---- what an accepted report rests on

module _ (t : TableFacts) (ws : List ℕ) where
  abbrev i : Instance
  i = instance_of t ws

  of_sound : (r : Report) → IsSound i t.ids r → HasRightNumbers i t.ids r
  of_sound r sound = record {
    certificate = sound.certificate;
    feasible = sound.feasible;
    bound_is_low = sound.bound_is_low;
    valid = sound.valid;
    cost_is = sound.cost_is;
  }

  of_verdict : (r : Report) (v : Verdict) → IsReport r → IsVerdict i t.ids r v → IsYesButForRatio v → HasRightNumbers i t.ids r
  of_verdict r verdict.Yes is holds fine = of_sound r holds
  of_verdict r (verdict.No (RatioBroken paid most)) is holds fine = right_numbers t ws r paid most is holds
  of_verdict r (verdict.No reason) is holds fine = absurd fine

  plan_rests : (r : Report) (arrival : ℕ → ℕ) → HasRightNumbers i t.ids r → RestsOn i arrival (Plan r)
  plan_rests r arrival right = record {
    own = right.valid;
    cost_is = right.cost_is;
    bounds = λ slots valid. omega (arith, right.bound_is_low, bound_law i _ slots right.certificate right.feasible valid);
  }

-- no schedule that serves nobody before its arrival costs less than the total of a right online run
abbrev pub OnlineLaw : Type 0
OnlineLaw = (i : Instance) (arrival : ℕ → ℕ) (ids : List ℕ) (o : Run) (slots : List (List ℕ)) → IsSoundOnline i arrival ids o → IsReleased i.flows arrival slots →
    o.total ≤ cost i.flows i.weight i.coflows slots

pub rests_on : OnlineLaw → (t : TableFacts) (ws : List ℕ) (slot_ms : ℕ) (report : AnyReport) → IsAnyReport report → IsAccepted t ws slot_ms report →
    RestsOn (instance_of t ws) (arrival_in t slot_ms report) report
rests_on law t ws slot_ms (Plan r) is (v, holds, fine) = plan_rests t ws r _ (of_verdict t ws r v is holds fine)
rests_on law t ws slot_ms (Online o) is sound = record {
  own = sound.released;
  cost_is = sound.cost_is;
  bounds = λ slots released. law (instance_of t ws) _ t.ids o slots sound released;
}

valid_beside : (i : Instance) (arrival : ℕ → ℕ) (report : AnyReport) (slots : List (List ℕ)) → IsScheduleBeside i arrival report slots → IsValid i.flows slots
valid_beside i arrival (Plan r) slots valid = valid
valid_beside i arrival (Online o) slots released = released.valid

-- the runs of a report are those of a schedule
pub kept_runs : (report : AnyReport) → IsAnyReport report → IsKept (runs_in report)
kept_runs (Plan r) is = runs_kept r is
kept_runs (Online o) is = online_kept o is

pub named_flows : (t : TableFacts) (ws : List ℕ) (arrival : ℕ → ℕ) (report : AnyReport) → RestsOn (instance_of t ws) arrival report → NamesFlows (length t.flows) (slots_of report)
named_flows t ws arrival report rests = valid_names t.flows (slots_of report) (valid_beside (instance_of t ws) arrival report (slots_of report) rests.own)

pub cost_small : (t : TableFacts) (ws : List ℕ) (arrival : ℕ → ℕ) (report : AnyReport) → IsTable t → IsAnyReport report → All (λ w. w ≤ 4294967296) ws →
    RestsOn (instance_of t ws) arrival report → (totals_of report).cost ≤ 2 ^ 100
cost_small t ws arrival report table is small rests =
    omega (arith, rests.cost_is, parts_small t.flows ws (slots_of report) 0 (length t.ids) small (kept_runs report is).short, table.few_coflows)

-- ---- what was read and told

abbrev pub given_by : (told : Option Told) (said : StatsSaid) (t : TableFacts) (ws : List ℕ) (report : AnyReport) → IsInput told said.trace said.weights said.unit t ws →
    IsAnyReportOf told said.report report → Given told said
given_by told said t ws report input is = record { table = t; list = ws; input = input; report = report; report_is = is }

pub tells_by : (told : Option Told) (said : StatsSaid) (t : TableFacts) (ws : List ℕ) (report : AnyReport) (text : List ℕ) → IsInput told said.trace said.weights said.unit t ws →
    IsAnyReportOf told said.report report → AreNumbers t ws said report text → TellsNumbers told said text
tells_by told said t ws report text input is numbers = record { given = given_by told said t ws report input is; numbers = numbers }

pub cause_by : (before now : ℕ) (old new : Option Told) (said : StatsSaid) (t : TableFacts) (ws : List ℕ) (report : AnyReport) (s : StatsStatus) →
    IsInput old said.trace said.weights said.unit t ws → IsAnyReportOf old said.report report → HasNoNumbers t ws said report s → HasStatsCause before now old new said s
cause_by before now old new said t ws report stats.No input is refused = (given_by old said t ws report input is, refused)
cause_by before now old new said t ws report (stats.Ended s) input is memory = subst (λ x. HasCauseInFiles IsAnyBadAt before now old new (check_of said) x) (sym memory) tt
cause_by before now old new said t ws report stats.Ok input is cause = absurd cause
cause_by before now old new said t ws report stats.Usage input is cause = absurd cause

-- no call to shelf or sink failed
pub verdict_calls : (t : TableFacts) (ws : List ℕ) (said : StatsSaid) (report : AnyReport) (s : StatsStatus) → HasNoNumbers t ws said report s →
    (IsReadFault (as_check s) → ⊥) × (IsWriteFault (as_check s) → ⊥)
verdict_calls t ws said report stats.No cause = (λ f. f, λ f. f)
verdict_calls t ws said report (stats.Ended s) is = (λ f. subst IsReadFault is f, λ f. subst IsWriteFault is f)
verdict_calls t ws said report stats.Ok cause = (λ f. f, λ f. f)
verdict_calls t ws said report stats.Usage cause = (λ f. f, λ f. f)

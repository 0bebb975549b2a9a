-- The picture of a report.
use Rattle.std.specs.Prelude.{◌≡◌, ℕ, ◌*◌, ◌-◌, ◌<◌, ◌≤◌, ◌==◌, List, Option, filter, length, map, min, not, slice_index, sum}
use Rattle.std.specs.List.{range_with_len}
use Rattle.coflow_units.specs.Completion.{completion, cost}
use Rattle.coflow_units.specs.Flows.{Instance}
use Rattle.coflow_units.specs.Schedule.{IsValid}
use Rattle.flow_table.specs.Table.{TableFacts, instance_of}
use Rattle.outside.specs.Shelf.{Told}
use Rattle.class_rates.specs.declared.fold.Fold.TheVariants.{Count}
use Rattle.cert_check.specs.declared.verdict.Verdict.TheVariants as verdict
use Rattle.cert_check.specs.declared.verdict.Reason.{Reason}
use Rattle.cert_check.specs.Places.{coflows_in}
use Rattle.cert_check.specs.Reasons.{IsVerdict}
use Rattle.cert_check.specs.Sound.{IsSound}
use Rattle.picture.specs.declared.value.BarsFault.TheVariants as bars_fault
use Rattle.picture.specs.declared.value.TheConstants.{MAX_BARS}
use Rattle.picture.specs.declared.value.Window.{Window}
use Rattle.picture.specs.Bars.{IsBars, IsTooMany, bar_count}
use Rattle.picture.specs.Curve.{IsCurve}
use Rattle.picture.specs.declared.value.Picture.{Picture}
use Rattle.picture.specs.Means.{tenths_down, tenths_up}
use Rattle.picture.specs.Order.{IsPlaces}
use Rattle.picture.specs.Svg.{picture_text}
use Rattle.picture.specs.Title.{hundredths}
use Rattle.picture.specs.declared.run_value.RunPicture.{RunPicture}
use Rattle.picture.specs.Run.{IsRunOf}
use Rattle.picture.specs.RunSvg.{run_picture_text}
use Rattle.online_check.specs.declared.any_report.AnyReport.{AnyReport}
use Rattle.online_check.specs.declared.any_report.AnyReport.TheVariants.{Online, Plan}
use Rattle.online_check.specs.declared.verdict.OnlineReason.{OnlineReason}
use Rattle.online_check.specs.Arrivals.{arrivals_in}
use Rattle.online_check.specs.Done.{slots_done}
use Rattle.online_check.specs.Reasons.{IsFirstOnlineReason}
use Rattle.online_check.specs.Sound.{BoundsReleasedSchedules, IsSoundOnline}
use Rattle.online_text.specs.declared.value.Epoch.{Epoch}
use Rattle.online_text.specs.declared.value.Online.{Online as Run}
use Rattle.release_bound.specs.Best.{arrivals_cost}
use Rattle.release_bound.specs.Release.{IsReleased}
use Rattle.report_text.specs.declared.value.Report.{Report}
use Rattle.schedule_model.specs.RunList.{slots_in}
use Rattle.command_files.specs.Reports.{IsAnyReportOf}
use Rattle.command_files.specs.Inputs.{IsInput}
use Rattle.plans.specs.Totals.{BoundsEverySchedule}
use Rattle.command_files.specs.declared.status.Status.TheVariants as status
use Rattle.command_words.specs.Jobs.Job.{check_job}
use Rattle.command_words.specs.Words.{Said}
use Rattle.picture_cli.specs.Words.{ReportSaid}
use Rattle.picture_cli.specs.declared.status.PictureStatus.{PictureStatus}
use Rattle.picture_cli.specs.declared.status.PictureStatus.TheVariants.{Ended, No, NoSlots, TooManyBars}

-- what `sincronia check` would be said with the same files
abbrev pub check_of : ReportSaid → Said
check_of said = record {
  job = check_job said.trace said.report;
  weights = said.weights;
  unit = said.unit;
  agents = 4;
  epoch = 1024;
  run = 1;
  slot_ms = said.slot_ms;
  classes = 8;
  fold = Count;
}

-- the schedule of a report, slot by slot
abbrev pub slots_of : AnyReport → List (List ℕ)
slots_of (Plan r) = slots_in r.runs
slots_of (Online o) = slots_in o.runs

-- the window that is drawn: its last slot is at most the last one of the schedule
abbrev pub window_of : ReportSaid → AnyReport → Window
window_of said report = record {
  side = said.side;
  first = said.from;
  last = min said.to (length (slots_of report));
}

-- The picture shows the report: a window with a slot, the bars of its schedule in the window, which are no more than a
-- picture may have, the completions of all coflows of the table and their curve, the ids and the weights, the places in
-- the report's order, and the stated cost and bound.
pub record IsPictureOf (t : TableFacts) (ws : List ℕ) (r : Report) (said : ReportSaid) (p : Picture) : Type 0
  where
    pub window_is : p.window ≡ window_of said (Plan r)
    pub some : p.window.first ≤ p.window.last
    pub bars : IsBars t.flows (slots_in r.runs) t.ports p.window p.rows
    pub few : bar_count p.rows ≤ MAX_BARS
    pub ends_are : p.ends ≡ map (λ c. completion t.flows (slots_in r.runs) c) (range_with_len 0 (length t.ids))
    pub curve : IsCurve p.ends p.steps
    pub ids_are : p.ids ≡ t.ids
    pub weights_are : p.weights ≡ ws
    pub places_are : IsPlaces (coflows_in t.ids r.places) p.places
    pub cost_is : p.cost ≡ r.cost
    pub bound_is : p.bound ≡ r.bound

-- the times at which coflows arrive, where a slot takes so many milliseconds
abbrev pub arrival_in : TableFacts → ℕ → ℕ → ℕ
arrival_in t slot_ms = slice_index (arrivals_in t slot_ms)

-- the coflows that a run completes in a slot: those with units
abbrev pub completed_in : TableFacts → Run → List ℕ
completed_in t o = filter (λ c. not (slice_index (slots_done o.done) c == 0)) (range_with_len 0 (length t.ids))

-- The picture shows the online run: a span with a slot, the arrivals and the completions of the coflows that have units,
-- the publishings, and the stated cost and total with what the arrivals cost.
pub record IsRunPictureOf (t : TableFacts) (ws : List ℕ) (o : Run) (said : ReportSaid) (p : RunPicture) : Type 0
  where
    pub first_is : p.span.first ≡ said.from
    pub last_is : p.span.last ≡ min said.to (length (slots_in o.runs))
    pub some : p.span.first ≤ p.span.last
    pub run : IsRunOf (map (arrival_in t said.slot_ms) (completed_in t o))
        (map (slice_index (slots_done o.done)) (completed_in t o)) (map (λ (e : Epoch). e.time) o.epochs) p
    pub cost_is : p.costs.cost ≡ o.cost
    pub total_is : p.costs.total ≡ o.total
    pub arrivals_are : p.costs.arrivals ≡ arrivals_cost (instance_of t ws) (arrival_in t said.slot_ms)

-- the report is that of a plan
abbrev pub IsPlan : AnyReport → Type 0
IsPlan (Plan r) = Unit {0}
IsPlan (Online o) = ⊥

-- the report is that of an online run
abbrev pub IsRun : AnyReport → Type 0
IsRun (Plan r) = ⊥
IsRun (Online o) = Unit {0}

-- why a right report has no picture
abbrev pub HasNoPicture : TableFacts → AnyReport → ReportSaid → PictureStatus → Type 0
HasNoPicture t report said (NoSlots first last) =
    (first ≡ (window_of said report).first) × (last ≡ (window_of said report).last) × (last < first)
HasNoPicture t report said (TooManyBars bars) = IsPlan report ×
    IsTooMany t.flows (slots_of report) t.ports (window_of said report) (bars_fault.TooMany bars)
HasNoPicture t report said (Ended s) = s ≡ status.NoMemory
HasNoPicture t report said s = ⊥

-- the answer of the check is yes
abbrev pub IsRight : TableFacts → List ℕ → ℕ → AnyReport → Type 0
IsRight t ws slot_ms (Plan r) = IsVerdict (instance_of t ws) t.ids r verdict.Yes
IsRight t ws slot_ms (Online o) = IsSoundOnline (instance_of t ws) (arrival_in t slot_ms) t.ids o

-- the answer of the check is no
abbrev pub IsWrong : TableFacts → List ℕ → ℕ → AnyReport → Type 0
IsWrong t ws slot_ms (Plan r) = (reason : Reason) × IsVerdict (instance_of t ws) t.ids r (verdict.No reason)
IsWrong t ws slot_ms (Online o) = (reason : OnlineReason) ×
    IsFirstOnlineReason (instance_of t ws) (arrival_in t slot_ms) t.ids o reason

-- why a report has no picture: the answer of its check is no, or, where it is yes, one of those
abbrev pub HasVerdictCause : TableFacts → List ℕ → AnyReport → ReportSaid → PictureStatus → Type 0
HasVerdictCause t ws report said No = IsWrong t ws said.slot_ms report
HasVerdictCause t ws report said (Ended s) = s ≡ status.NoMemory
HasVerdictCause t ws report said s = IsRight t ws said.slot_ms report × HasNoPicture t report said s

-- the instance that the files give, the report, and the answer of its check
pub record Judged (told : Option Told) (said : ReportSaid) (Answer : TableFacts → List ℕ → ℕ → AnyReport → Type 0) :
    Type 0 where
  pub table : TableFacts
  pub list : List ℕ
  pub input : IsInput told said.trace said.weights said.unit table list
  pub report : AnyReport
  pub report_is : IsAnyReportOf told said.report report
  pub answer_is : Answer table list said.slot_ms report

-- What the title says of a report: its cost is at most so many hundredths of the cost of any valid schedule.
abbrev pub IsNearBest : Instance → Report → Type 0
IsNearBest i r = (slots : List (List ℕ)) → 1 ≤ r.bound → IsValid i.flows slots →
    100 * r.cost ≤ hundredths r.cost r.bound * cost i.flows i.weight i.coflows slots

-- What the title says of the means of a report, where each coflow counts as often as its weight says and the weights
-- add up to this: that of its schedule is at most the first, and that of no valid schedule is below the second.
pub record HasMeans (i : Instance) (r : Report) (weight : ℕ) : Type 0 where
  pub at_most : 10 * r.cost ≤ tenths_up r.cost weight * weight
  pub none_below : (slots : List (List ℕ)) → IsValid i.flows slots →
      tenths_down r.bound weight * weight ≤ 10 * cost i.flows i.weight i.coflows slots

-- What the title says of an online run: without what arrivals cost, its cost is at most so many hundredths of the cost
-- of any schedule that waits for arrivals.
abbrev pub IsNearLeast : Instance → (ℕ → ℕ) → Run → ℕ → Type 0
IsNearLeast i arrival o a = (slots : List (List ℕ)) → a < o.total → IsReleased i.flows arrival slots →
    100 * (o.cost - a) ≤ hundredths (o.cost - a) (o.total - a) * (cost i.flows i.weight i.coflows slots - a)

-- The plan is right, so its bound is at most the cost of every valid schedule of the instance, and where the bound is
-- above 0, its cost is at most as many times that cost as the title says. Where the weights add up to more than 0, the
-- means are as the title says. And this is the text of its picture.
pub record DrawsPlan (t : TableFacts) (ws : List ℕ) (r : Report) (said : ReportSaid) (text : List ℕ) : Type 0 where
  pub right : IsSound (instance_of t ws) t.ids r
  pub bounds : BoundsEverySchedule (instance_of t ws) r
  pub near : IsNearBest (instance_of t ws) r
  pub means : 1 ≤ sum ws → HasMeans (instance_of t ws) r (sum ws)
  pub picture : Picture
  pub shows : IsPictureOf t ws r said picture
  pub text_is : text ≡ picture_text picture

-- The online run is right, so no schedule that waits for arrivals costs less than its total, and without arrivals its
-- cost is at most as many times the cost of each of these as the title says. And this is the text of its picture.
pub record DrawsRun (t : TableFacts) (ws : List ℕ) (o : Run) (said : ReportSaid) (text : List ℕ) : Type 0 where
  pub right : IsSoundOnline (instance_of t ws) (arrival_in t said.slot_ms) t.ids o
  pub bounds : BoundsReleasedSchedules (instance_of t ws) (arrival_in t said.slot_ms) o
  pub near : IsNearLeast (instance_of t ws) (arrival_in t said.slot_ms) o
      (arrivals_cost (instance_of t ws) (arrival_in t said.slot_ms))
  pub picture : RunPicture
  pub shows : IsRunPictureOf t ws o said picture
  pub text_is : text ≡ run_picture_text picture

-- the text is that of the report's picture
abbrev pub DrawsReport : TableFacts → List ℕ → AnyReport → ReportSaid → List ℕ → Type 0
DrawsReport t ws (Plan r) said text = DrawsPlan t ws r said text
DrawsReport t ws (Online o) said text = DrawsRun t ws o said text

-- the report of the files is right, and this is the text of its picture
pub record ReportDrawn (told : Option Told) (said : ReportSaid) (text : List ℕ) : Type 0 where
  pub judged : Judged told said IsRight
  pub draws : DrawsReport judged.table judged.list judged.report said text

-- What a right report gives its picture, and the causes of the statuses of the program that draws.
use Rattle.std.proofs.Common.{◌≡◌, ℕ, ◌^◌, ◌*◌, ◌≤◌, ◌<◌, List, [], Option, length, map, sym, ap, subst, ◌∙◌, arith}
use Rattle.std.specs.Prelude.{All, sum}
use Rattle.std.proofs.Math.Nat.{div-mul-le_self, mul-le-mul_left}
use Rattle.std.proofs.lemmas.Grind.{div_ceil_times}
use Rattle.std.specs.List.{range_with_len, slice_index_or}
use Rattle.std.proofs.lemmas.List.Elements.{All-weaker}
use Rattle.std.proofs.lemmas.List.Sums.{sum_by-le}
use Rattle.coflow_units.specs.declared.fabric.Flow.{Flow}
use Rattle.coflow_units.specs.declared.fabric.Side.{Side}
use Rattle.coflow_units.specs.declared.fabric.Side.TheVariants.{Egress, Ingress}
use Rattle.coflow_units.specs.Completion.{completion, cost}
use Rattle.coflow_units.specs.Flows.{Instance, end_at}
use Rattle.coflow_units.specs.Schedule.{IsClear}
use Rattle.cert_check.proofs.EndFacts.{ends_are}
use Rattle.cert_check.proofs.SlotSteps.{runs_kept}
use Rattle.cert_check.specs.Sound.{IsSound}
use Rattle.dual_cert.proofs.DualLaw.{bound_law}
use Rattle.flow_table.specs.Table.{IsTable, TableFacts, instance_of}
use Rattle.outside.specs.Shelf.{Told}
use Rattle.picture.specs.declared.value.Bar.{Bar}
use Rattle.picture.specs.declared.value.Step.{Step}
use Rattle.picture.specs.declared.value.Window.{Window}
use Rattle.picture.specs.Bars.{IsBar, IsBars, Serves}
use Rattle.picture.specs.Curve.{IsCurve}
use Rattle.picture.specs.declared.value.Picture.{Picture}
use Rattle.picture.specs.Layout.{IsInside}
use Rattle.picture.specs.Svg.{picture_text}
use Rattle.picture.specs.Title.{hundredths}
use Rattle.report_text.specs.declared.value.Report.{Report}
use Rattle.report_text.specs.Report.{IsReport}
use Rattle.schedule_model.proofs.CostSums.{parts_small}
use Rattle.schedule_model.specs.RunList.{NamesFlows, slots_in}
use Rattle.online_check.specs.declared.any_report.AnyReport.{AnyReport}
use Rattle.online_check.specs.AnyReport.{IsAnyBadAt}
use Rattle.command_files.specs.Causes.{HasCauseInFiles}
use Rattle.command_files.specs.Reports.{IsAnyReportOf}
use Rattle.command_files.specs.Ends.{IsReadFault, IsWriteFault}
use Rattle.command_files.specs.Inputs.{IsInput}
use Rattle.picture_cli.specs.Drawn.{HasReportCause}
use Rattle.picture_cli.specs.Picture.{DrawsPlan, DrawsReport, ReportDrawn, HasMeans, HasVerdictCause, IsNearBest, IsPictureOf, IsRight, IsWrong, Judged, check_of}
use Rattle.picture_cli.specs.Status.{as_check}
use Rattle.picture_cli.specs.Words.{ReportSaid}
use Rattle.picture_cli.specs.declared.status.PictureStatus.{PictureStatus}
use Rattle.picture_cli.specs.declared.status.PictureStatus.TheVariants as drawn

-- ---- a right report

pub ends_below : (t : TableFacts) (side : Side) → IsTable t → All (λ (x : Flow). end_at side x < t.ports) t.flows
ends_below t Ingress is = is.ingress
ends_below t Egress is = is.egress

pub slots_short : (r : Report) → IsReport r → length (slots_in r.runs) ≤ 2199023255551
slots_short r is = (runs_kept r is).short

pub names_flows : (t : TableFacts) (ws : List ℕ) (r : Report) → IsSound (instance_of t ws) t.ids r → NamesFlows (length t.flows) (slots_in r.runs)
names_flows t ws r sound =
    All-weaker (IsClear t.flows) (λ (slot : List ℕ). All (λ f. f < length t.flows) slot) (λ slot clear. clear.flow) (slots_in r.runs) sound.valid.clear

pub cost_small : (t : TableFacts) (ws : List ℕ) (r : Report) → IsTable t → IsReport r → All (λ w. w ≤ 4294967296) ws → IsSound (instance_of t ws) t.ids r → r.cost ≤ 2 ^ 120
cost_small t ws r table report small sound =
    omega (arith, sound.cost_is, parts_small t.flows ws (slots_in r.runs) 0 (length t.ids) small (slots_short r report), table.few_coflows)

-- a right report's bound is at most its cost, since its schedule is a valid one
pub bound_small : (t : TableFacts) (ws : List ℕ) (r : Report) → IsTable t → IsReport r → All (λ w. w ≤ 4294967296) ws → IsSound (instance_of t ws) t.ids r → r.bound ≤ 2 ^ 120
bound_small t ws r table report small sound =
    omega (
      arith,
      cost_small t ws r table report small sound,
      sound.bound_is_low,
      sound.cost_is,
      bound_law (instance_of t ws) _ (slots_in r.runs) sound.certificate sound.feasible sound.valid,
    )

pub weights_small : (t : TableFacts) (ws : List ℕ) → IsTable t → length ws ≡ length t.ids → All (λ w. w ≤ 4294967296) ws → sum ws < 2 ^ 64
weights_small t ws table same small = omega (arith, sum_by-le (λ w. w) 4294967296 ws small, table.few_coflows)

-- ---- what was read and drawn

abbrev pub judged_by : (told : Option Told) (said : ReportSaid) (t : TableFacts) (ws : List ℕ) (report : AnyReport) (Answer : TableFacts → List ℕ → ℕ → AnyReport → Type 0) →
    IsInput told said.trace said.weights said.unit t ws → IsAnyReportOf told said.report report → Answer t ws said.slot_ms report → Judged told said Answer
judged_by told said t ws report Answer input is answer = record { table = t; list = ws; input = input; report = report; report_is = is; answer_is = answer }

-- what the title says
pub near_best : (i : Instance) (ids : List ℕ) (r : Report) → IsSound i ids r → IsNearBest i r
near_best i ids r sound slots some valid =
    let least : ℕ = cost i.flows i.weight i.coflows slots in
    let low : r.bound ≤ least = omega (arith, sound.bound_is_low, bound_law i _ slots sound.certificate sound.feasible valid) in
    omega (arith, (div_ceil_times (100 * r.cost) r.bound some).0, mul-le-mul_left (hundredths r.cost r.bound) low)

pub means_of : (i : Instance) (ids : List ℕ) (r : Report) (weight : ℕ) → IsSound i ids r → 1 ≤ weight → HasMeans i r weight
means_of i ids r weight sound some = record {
  at_most = (div_ceil_times (10 * r.cost) weight some).0;
  none_below = λ slots valid. omega (arith, sound.bound_is_low, bound_law i _ slots sound.certificate sound.feasible valid, div-mul-le_self (10 * r.bound) weight);
}

pub draws_plan : (t : TableFacts) (ws : List ℕ) (r : Report) (said : ReportSaid) (text : List ℕ) (p : Picture) → IsSound (instance_of t ws) t.ids r → IsPictureOf t ws r said p →
    text ≡ picture_text p → DrawsPlan t ws r said text
draws_plan t ws r said text p sound shows same = record {
  right = sound;
  bounds = λ slots valid. omega (arith, sound.bound_is_low, bound_law (instance_of t ws) _ slots sound.certificate sound.feasible valid);
  near = near_best (instance_of t ws) t.ids r sound;
  means = λ some. means_of (instance_of t ws) t.ids r (sum ws) sound some;
  picture = p;
  shows = shows;
  text_is = same;
}

pub draws_by : (told : Option Told) (said : ReportSaid) (t : TableFacts) (ws : List ℕ) (report : AnyReport) (text : List ℕ) → IsInput told said.trace said.weights said.unit t ws →
    IsAnyReportOf told said.report report → IsRight t ws said.slot_ms report → DrawsReport t ws report said text → ReportDrawn told said text
draws_by told said t ws report text input is right draws = record { judged = judged_by told said t ws report IsRight input is right; draws = draws }

pub cause_by : (before now : ℕ) (old new : Option Told) (said : ReportSaid) (t : TableFacts) (ws : List ℕ) (report : AnyReport) (s : PictureStatus) →
    IsInput old said.trace said.weights said.unit t ws → IsAnyReportOf old said.report report → HasVerdictCause t ws report said s → HasReportCause before now old new said s
cause_by before now old new said t ws report drawn.No input is wrong = judged_by old said t ws report IsWrong input is wrong
cause_by before now old new said t ws report (drawn.NoSlots first last) input is (holds, cause) = (judged_by old said t ws report IsRight input is holds, cause)
cause_by before now old new said t ws report (drawn.TooManyBars bars) input is (holds, cause) = (judged_by old said t ws report IsRight input is holds, cause)
cause_by before now old new said t ws report (drawn.Ended s) input is memory = subst (λ x. HasCauseInFiles IsAnyBadAt before now old new (check_of said) x) (sym memory) tt
cause_by before now old new said t ws report drawn.Ok input is (holds, cause) = absurd cause
cause_by before now old new said t ws report drawn.Usage input is (holds, cause) = absurd cause

-- no call to shelf or sink failed
pub verdict_calls : (t : TableFacts) (ws : List ℕ) (report : AnyReport) (said : ReportSaid) (s : PictureStatus) → HasVerdictCause t ws report said s →
    (IsReadFault (as_check s) → ⊥) × (IsWriteFault (as_check s) → ⊥)
verdict_calls t ws report said drawn.No cause = (λ f. f, λ f. f)
verdict_calls t ws report said (drawn.NoSlots first last) cause = (λ f. f, λ f. f)
verdict_calls t ws report said (drawn.TooManyBars bars) cause = (λ f. f, λ f. f)
verdict_calls t ws report said (drawn.Ended s) is = (λ f. subst IsReadFault is f, λ f. subst IsWriteFault is f)
verdict_calls t ws report said drawn.Ok cause = (λ f. f, λ f. f)
verdict_calls t ws report said drawn.Usage cause = (λ f. f, λ f. f)

-- ---- what was lent

abbrev window : Side → ℕ → ℕ → Window
window s f l = record { side = s; first = f; last = l }

pub window_same : (w : Window) (side : Side) (first last : ℕ) → w.side ≡ side → w.first ≡ first → w.last ≡ last → w ≡ record { side = side; first = first; last = last }
window_same w side first last a b c = ap (λ s. window s w.first w.last) a ∙ ap (λ n. window side n w.last) b ∙ ap (λ n. window side first n) c

pub clear_along : (flows lent : List Flow) (slots : List (List ℕ)) → lent ≡ flows → All (IsClear flows) slots → All (IsClear lent) slots
clear_along flows lent slots f = subst (λ (l : List Flow). All (IsClear l) slots) (sym f)

pub names_along : (flows lent : List Flow) (slots : List (List ℕ)) → lent ≡ flows → NamesFlows (length flows) slots → NamesFlows (length lent) slots
names_along flows lent slots f = subst (λ (l : List Flow). NamesFlows (length l) slots) (sym f)

pub bars_along : (flows lent : List Flow) (slots : List (List ℕ)) (ports n : ℕ) (w : Window) (rows kept : List (List Bar)) → lent ≡ flows → n ≡ ports → kept ≡ rows →
    IsBars lent slots n w rows → IsBars flows slots ports w kept
bars_along flows lent slots ports n w rows kept f p k bars =
    subst (λ (l : List (List Bar)). IsBars flows slots ports w l) (sym k)
    (subst (λ x. IsBars flows slots x w rows) p (subst (λ (l : List Flow). IsBars l slots n w rows) f bars))

-- the bars lie inside the window
pub bars_inside : (flows : List Flow) (slots : List (List ℕ)) (ports : ℕ) (w : Window) (rows kept : List (List Bar)) → kept ≡ rows → IsBars flows slots ports w rows →
    (port : ℕ) → port < length kept → All (IsInside w) (slice_index_or kept port [])
bars_inside flows slots ports w rows kept k bars =
    subst (λ (l : List (List Bar)). (port : ℕ) → port < length l → All (IsInside w) (slice_index_or l port [])) (sym k)
    (λ port lt. All-weaker (IsBar (Serves flows slots w.side port) w.first w.last) (IsInside w) (λ b is. record { some = is.some; from = is.from; upto = is.upto })
    (slice_index_or rows port []) (bars.row port (omega (arith, lt, bars.row_each))).bars)

-- the completions of all coflows, kept after they were lent
pub ends_along : (flows lent : List Flow) (slots : List (List ℕ)) (ends kept : List ℕ) (n count : ℕ) → lent ≡ flows → count ≡ n → kept ≡ ends →
    ends ≡ map (λ c. completion lent slots c) (range_with_len 0 count) → kept ≡ map (λ c. completion flows slots c) (range_with_len 0 n)
ends_along flows lent slots ends kept n count f c k e = ends_are flows lent slots ends kept n count f c k e

pub curve_along : (ends given kept_ends : List ℕ) (steps kept : List Step) → given ≡ ends → kept_ends ≡ ends → kept ≡ steps → IsCurve given steps → IsCurve kept_ends kept
curve_along ends given kept_ends steps kept g e k curve =
    subst (λ (l : List Step). IsCurve kept_ends l) (sym k) (subst (λ (l : List ℕ). IsCurve l steps) (g ∙ sym e) curve)

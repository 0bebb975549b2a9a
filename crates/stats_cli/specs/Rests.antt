-- What the numbers of a schedule rest on.
use Rattle.std.specs.Prelude.{◌≡◌, ℕ, ◌≤◌, List, false, true}
use Rattle.coflow_units.specs.declared.plan.Run.{Run}
use Rattle.coflow_units.specs.Certificate.{IsCertificate, IsFeasible, bound}
use Rattle.coflow_units.specs.Completion.{cost}
use Rattle.coflow_units.specs.Flows.{Instance}
use Rattle.coflow_units.specs.Schedule.{IsValid}
use Rattle.cert_check.specs.Places.{certificate_in}
use Rattle.coflow_stats.specs.declared.value.Totals.{Totals}
use Rattle.online_check.specs.declared.any_report.AnyReport.{AnyReport}
use Rattle.online_check.specs.declared.any_report.AnyReport.TheVariants.{Online, Plan}
use Rattle.release_bound.specs.Release.{IsReleased}
use Rattle.report_text.specs.declared.value.Report.{Report}
use Rattle.schedule_model.specs.RunList.{slots_in}

-- the runs of a report
abbrev pub runs_in : AnyReport → List Run
runs_in (Plan r) = r.runs
runs_in (Online o) = o.runs

-- the schedule of a report, slot by slot
abbrev pub slots_of : AnyReport → List (List ℕ)
slots_of report = slots_in (runs_in report)

-- the lower bound that a report states, which an online run calls its total, and its cost
abbrev pub totals_of : AnyReport → Totals
totals_of (Plan r) = record { bound = r.bound; cost = r.cost; online = false }
totals_of (Online o) = record { bound = o.total; cost = o.cost; online = true }

-- The schedule is valid; and beside an online run, it serves nobody before its arrival.
abbrev pub IsScheduleBeside : Instance → (ℕ → ℕ) → AnyReport → List (List ℕ) → Type 0
IsScheduleBeside i arrival (Plan r) slots = IsValid i.flows slots
IsScheduleBeside i arrival (Online o) slots = IsReleased i.flows arrival slots

-- The schedule of the report is one of these, with the cost that the report states; and each of them costs its bound or
-- more.
pub record RestsOn (i : Instance) (arrival : ℕ → ℕ) (report : AnyReport) : Type 0 where
  pub own : IsScheduleBeside i arrival report (slots_of report)
  pub cost_is : (totals_of report).cost ≡ cost i.flows i.weight i.coflows (slots_of report)
  pub bounds : (slots : List (List ℕ)) → IsScheduleBeside i arrival report slots →
      (totals_of report).bound ≤ cost i.flows i.weight i.coflows slots

-- The report of a plan has a valid schedule with the cost that it states, and its places are a feasible certificate with
-- its bound or a greater one. Of the ratio of cost to bound nothing is said.
pub record HasRightNumbers (i : Instance) (ids : List ℕ) (r : Report) : Type 0 where
  pub certificate : IsCertificate i (certificate_in ids r.places)
  pub feasible : IsFeasible i.flows i.weight (certificate_in ids r.places)
  pub bound_is_low : r.bound ≤ bound i.flows (certificate_in ids r.places)
  pub valid : IsValid i.flows (slots_in r.runs)
  pub cost_is : r.cost ≡ cost i.flows i.weight i.coflows (slots_in r.runs)

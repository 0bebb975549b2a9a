-- The report of an order that somebody gave: the certificate is that of the plan, and the schedule serves the given order.
use Rattle.std.specs.Prelude.{◌≡◌, ℕ, List, Some, map}
use Rattle.coflow_units.specs.declared.plan.Place.{Place}
use Rattle.coflow_units.specs.Certificate.{bound, slack}
use Rattle.coflow_units.specs.Completion.{cost}
use Rattle.coflow_units.specs.Flows.{Instance}
use Rattle.coflow_units.specs.Schedule.{IsRuns}
use Rattle.coflow_units.specs.Served.{IsServed}
use Rattle.bssi_order.specs.Order.{IsOrder, entries_of}
use Rattle.report_text.specs.declared.value.Report.{Report}
use Rattle.schedule_model.specs.RunList.{pairs_of}
use Rattle.plans.specs.PlanReport.{line_of}

-- The places, the bound and the slack are those of the plan's ordering certificate. The completions, the cost and the
-- runs are those of the schedule that serves the coflows in this line.
pub record IsServedReport (i : Instance) (ids line : List ℕ) (r : Report) : Type 0 where
  pub order : List Place
  pub ordering : IsOrder i order
  pub slots : List (List ℕ)
  pub served : IsServed i.flows line slots
  pub places : r.places ≡ map (line_of ids i.flows slots) order
  pub weights : r.weights ≡ Some (map (λ (x : Place). i.weight x.coflow) order)
  pub bound_is : r.bound ≡ bound i.flows (entries_of order)
  pub slack_is : r.slack ≡ slack i.flows i.weight (entries_of order)
  pub cost_is : r.cost ≡ cost i.flows i.weight i.coflows slots
  pub runs : IsRuns slots (pairs_of r.runs)

-- The plan of an instance, as a report.
use Rattle.std.specs.Prelude.{◌≡◌, ℕ, List, Some, map, slice_index}
use Rattle.coflow_units.specs.declared.fabric.Flow.{Flow}
use Rattle.coflow_units.specs.declared.plan.Place.{Place}
use Rattle.coflow_units.specs.Certificate.{bound, slack}
use Rattle.coflow_units.specs.Completion.{completion, cost}
use Rattle.coflow_units.specs.Flows.{Instance}
use Rattle.coflow_units.specs.Schedule.{IsRuns}
use Rattle.coflow_units.specs.Served.{IsServed}
use Rattle.bssi_order.specs.Order.{IsOrder, entries_of}
use Rattle.report_text.specs.declared.value.PlaceLine.{PlaceLine}
use Rattle.report_text.specs.declared.value.Report.{Report}
use Rattle.schedule_model.specs.RunList.{pairs_of}

-- the coflows of the places
abbrev pub coflows_of : List Place → List ℕ
coflows_of places = map (λ (x : Place). x.coflow) places

-- the line of a place, from the ids and the completions of the coflows
abbrev pub line_from : List ℕ → List ℕ → Place → PlaceLine
line_from ids ends x = record {
  id = slice_index ids x.coflow;
  port = x.port;
  y = x.y;
  done = slice_index ends x.coflow;
}

-- what a report says of a place: the coflow's id, what the place charges, and the coflow's completion
abbrev pub line_of : List ℕ → List Flow → List (List ℕ) → Place → PlaceLine
line_of ids flows slots x = record {
  id = slice_index ids x.coflow;
  port = x.port;
  y = x.y;
  done = completion flows slots x.coflow;
}

-- The report of the plan: the places of the ordering certificate, the schedule that serves their order, the bound and
-- the slack of the certificate, and the cost of the schedule.
pub record IsPlanOf (i : Instance) (ids : List ℕ) (r : Report) : Type 0 where
  pub order : List Place
  pub ordering : IsOrder i order
  pub slots : List (List ℕ)
  pub served : IsServed i.flows (coflows_of order) slots
  pub places : r.places ≡ map (line_of ids i.flows slots) order
  pub weights : r.weights ≡ Some (map (λ (x : Place). i.weight x.coflow) order)
  pub bound_is : r.bound ≡ bound i.flows (entries_of order)
  pub slack_is : r.slack ≡ slack i.flows i.weight (entries_of order)
  pub cost_is : r.cost ≡ cost i.flows i.weight i.coflows slots
  pub runs : IsRuns slots (pairs_of r.runs)

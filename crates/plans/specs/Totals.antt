-- What the totals of a plan say of every schedule.
use Rattle.std.specs.Prelude.{◌≡◌, ℕ, ◌+◌, ◌*◌, ◌≤◌, List}
use Rattle.bssi_order.specs.Order.{IsOrder, entries_of}
use Rattle.coflow_units.specs.declared.plan.Place.{Place}
use Rattle.coflow_units.specs.Certificate.{bound}
use Rattle.coflow_units.specs.Completion.{cost}
use Rattle.coflow_units.specs.Flows.{Instance}
use Rattle.coflow_units.specs.Schedule.{IsValid}
use Rattle.report_text.specs.declared.value.Report.{Report}

-- the bound is at most the cost of every valid schedule of the instance, patient or not
abbrev pub BoundsEverySchedule : Instance → Report → Type 0
BoundsEverySchedule i report =
    (slots : List (List ℕ)) → IsValid i.flows slots → report.bound ≤ cost i.flows i.weight i.coflows slots

-- the cost is at most four times the bound, and the slack
abbrev pub IsWithinFour : Report → Type 0
IsWithinFour report = report.cost ≤ 4 * report.bound + report.slack

-- the number is the bound that the plan of the instance has: that of its ordering certificate
pub record IsPlanBound (i : Instance) (b : ℕ) : Type 0 where
  pub order : List Place
  pub ordering : IsOrder i order
  pub bound_is : b ≡ bound i.flows (entries_of order)

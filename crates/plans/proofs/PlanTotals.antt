-- What the laws say of the totals of a plan, and of the report of any line that is served.
use Rattle.std.proofs.Common.{◌≡◌, ℕ, ◌≤◌, List, reverse, sym, ap, subst, ◌∙◌, arith}
use Rattle.std.proofs.lemmas.List.{reverse-reverse}
use Rattle.coflow_units.specs.declared.plan.Place.{Place}
use Rattle.coflow_units.specs.Certificate.{order_of}
use Rattle.coflow_units.specs.Completion.{cost}
use Rattle.coflow_units.specs.Flows.{Instance, IsInstance}
use Rattle.coflow_units.specs.Schedule.{IsValid}
use Rattle.coflow_units.specs.Served.{IsServed}
use Rattle.bssi_order.specs.Order.{entries_of}
use Rattle.report_text.specs.declared.value.Report.{Report}
use Rattle.plans.specs.PlanReport.{IsPlanOf, coflows_of}
use Rattle.plans.specs.ServedReport.{IsServedReport}
use Rattle.plans.specs.Totals.{BoundsEverySchedule, IsPlanBound, IsWithinFour}
use Rattle.plans.proofs.AsServed.{as_served}
use Rattle.plans.proofs.CertificateFacts.{front_of_places}
use Rattle.plans.proofs.PlanLaw.{plan_bound, plan_four}

same_order : (places : List Place) → order_of (entries_of places) ≡ coflows_of places
same_order places = ap reverse (front_of_places places) ∙ reverse-reverse (coflows_of places)

-- the bound is that of the plan's certificate, whichever line is served
pub served_bounds : (i : Instance) (ids line : List ℕ) (report : Report) → IsServedReport i ids line report → BoundsEverySchedule i report
served_bounds i ids line report s =
    λ slots valid. subst (λ n. n ≤ cost i.flows i.weight i.coflows slots) (sym s.bound_is) (plan_bound i (entries_of s.order) slots s.ordering.ordering valid)

pub plan_bounds : (i : Instance) (ids : List ℕ) (report : Report) → IsPlanOf i ids report → BoundsEverySchedule i report
plan_bounds i ids report p = served_bounds i ids (coflows_of p.order) report (as_served i ids report p)

pub plan_within : (i : Instance) (ids : List ℕ) (report : Report) → IsInstance i → IsPlanOf i ids report → IsWithinFour report
plan_within i ids report inst p =
    omega (
      arith,
      p.bound_is,
      p.slack_is,
      p.cost_is,
      plan_four i (entries_of p.order) p.slots inst p.ordering.ordering
          (subst (λ l. IsServed i.flows l p.slots) (sym (same_order p.order)) p.served),
    )

-- no valid schedule costs less than the bound alone, which is found without the schedule of the plan
pub bound_low : (i : Instance) (b : ℕ) → IsPlanBound i b → (slots : List (List ℕ)) → IsValid i.flows slots → b ≤ cost i.flows i.weight i.coflows slots
bound_low i b is slots valid =
    subst (λ n. n ≤ cost i.flows i.weight i.coflows slots) (sym is.bound_is) (plan_bound i (entries_of is.order) slots is.ordering.ordering valid)

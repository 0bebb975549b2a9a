-- A plan is the report of its own order: that of its places.
use Rattle.std.proofs.Common.{◌≡◌, ℕ, List, refl, subst}
use Rattle.coflow_units.specs.Flows.{Instance}
use Rattle.coflow_units.specs.Served.{IsServed}
use Rattle.report_text.specs.declared.value.Report.{Report}
use Rattle.plans.specs.PlanReport.{IsPlanOf, coflows_of}
use Rattle.plans.specs.ServedReport.{IsServedReport}

pub as_served : (i : Instance) (ids : List ℕ) (r : Report) → (p : IsPlanOf i ids r) → IsServedReport i ids (coflows_of p.order) r
as_served i ids r p = record {
  order = p.order;
  ordering = p.ordering;
  slots = p.slots;
  served = p.served;
  places = p.places;
  weights = p.weights;
  bound_is = p.bound_is;
  slack_is = p.slack_is;
  cost_is = p.cost_is;
  runs = p.runs;
}

-- where the line is that order, the report is a plan, with the same slots
pub as_plan : (i : Instance) (ids line : List ℕ) (r : Report) → (s : IsServedReport i ids line r) → line ≡ coflows_of s.order →
    (p : IsPlanOf i ids r) × (p.slots ≡ s.slots)
as_plan i ids line r s own = (
  record {
    order = s.order;
    ordering = s.ordering;
    slots = s.slots;
    served = subst (λ (l : List ℕ). IsServed i.flows l s.slots) own s.served;
    places = s.places;
    weights = s.weights;
    bound_is = s.bound_is;
    slack_is = s.slack_is;
    cost_is = s.cost_is;
    runs = s.runs;
  },
  refl,
)

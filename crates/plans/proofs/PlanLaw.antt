-- The plan of an instance: its ordering certificate, and the schedule that serves its order.
use Rattle.std.proofs.Common.{ℕ, ◌+◌, ◌*◌, ◌≤◌, List, []}
use Rattle.coflow_units.specs.Flows.{Instance, IsInstance}
use Rattle.coflow_units.specs.Completion.{cost}
use Rattle.coflow_units.specs.Schedule.{IsValid}
use Rattle.coflow_units.specs.Served.{IsServed}
use Rattle.coflow_units.specs.Certificate.{Entry, bound, slack, order_of}
use Rattle.coflow_units.specs.Ordering.{IsOrdering}
use Rattle.dual_cert.proofs.DualLaw.{bound_law}
use Rattle.dual_cert.proofs.FourLaw.{four_bound_law}
use Rattle.coflow_units.proofs.OrderingLaws.{ordering_feasible, takes_greatest}
use Rattle.coflow_units.proofs.ServedLaws.{served_valid, served_patient}

pub plan_bound : (i : Instance) (entries : List Entry) (slots : List (List ℕ)) → IsOrdering i entries → IsValid i.flows slots →
    bound i.flows entries ≤ cost i.flows i.weight i.coflows slots
plan_bound i entries slots ordering valid = bound_law i entries slots ordering.certificate (ordering_feasible i entries ordering) valid

pub plan_four : (i : Instance) (entries : List Entry) (slots : List (List ℕ)) → IsInstance i → IsOrdering i entries → IsServed i.flows (order_of entries) slots →
    cost i.flows i.weight i.coflows slots ≤ 4 * bound i.flows entries + slack i.flows i.weight entries
plan_four i entries slots inst ordering served =
    four_bound_law i entries slots inst ordering.certificate (ordering_feasible i entries ordering) (takes_greatest i.flows i.weight i.ports [] entries ordering.ordered)
    (served_valid i.flows (order_of entries) slots served) (served_patient i.flows (order_of entries) slots served)

-- The slack of an ordering certificate, and of the reports that have it.
use Rattle.std.proofs.Common.{ℕ, ◌*◌, ◌^◌, ◌<◌, ◌≤◌, List, length, arith, le_trans}
use Rattle.std.specs.Prelude.{Contains, sum_by}
use Rattle.std.specs.List.{range_with_len}
use Rattle.std.proofs.lemmas.List.Elements.{All-contains}
use Rattle.std.proofs.lemmas.List.{length-map}
use Rattle.std.proofs.lemmas.List.FromFn.{length-range_with_len}
use Rattle.coflow_units.specs.declared.fabric.Flow.{Flow}
use Rattle.coflow_units.specs.declared.fabric.Port.{Port}
use Rattle.coflow_units.specs.Flows.{Instance}
use Rattle.coflow_units.specs.Load.{load, load_of_all}
use Rattle.coflow_units.specs.Certificate.{Entry, IsCertificate, front, front_loads, slack}
use Rattle.coflow_units.specs.Ordering.{IsOrdering}
use Rattle.coflow_units.proofs.Sums.{apart_from_pairs, members_at_most}
use Rattle.port_load.proofs.LoadSums.{within_units}
use Rattle.bssi_order.specs.Order.{entries_of}
use Rattle.coflow_units.proofs.OrderingLaws.{ordering_rests}
use Rattle.dual_cert.proofs.SlackLaw.{slack_by_fronts, slack_two_each}
use Rattle.flow_table.specs.Table.{TableFacts, instance_of}
use Rattle.flow_table.proofs.Shares.{sum_ones}
use Rattle.report_text.specs.declared.value.Report.{Report}
use Rattle.plans.specs.ServedReport.{IsServedReport}
use Rattle.plans.specs.Weighed.{IsWeighed}

-- the coflows of the places are among those of the instance, each once, so they have no more of anything
at_most : (w : ℕ → ℕ) (i : Instance) (entries : List Entry) → IsCertificate i entries → sum_by w (front entries) ≤ sum_by w i.coflows
at_most w i entries c =
    members_at_most w (front entries) i.coflows (apart_from_pairs (front entries) c.once) (λ x has _. All-contains (Contains i.coflows) (front entries) x c.coflow has)

few_places : (i : Instance) (entries : List Entry) → IsCertificate i entries → length entries ≤ length i.coflows
few_places i entries c = omega (arith, at_most (λ x. 1) i entries c, sum_ones (front entries), sum_ones i.coflows, length-map entries (λ (e : Entry). e.coflow))

pub two_for_each : (i : Instance) (entries : List Entry) → IsOrdering i entries →
    ((port : Port) → port.number < i.ports → load_of_all i.flows i.coflows port ≤ 2 ^ 20) → slack i.flows i.weight entries ≤ 2 * length i.coflows
two_for_each i entries ordering cap =
    let c = ordering.certificate in
    let loads = λ (port : Port) (lt : port.number < i.ports). le_trans (at_most (λ coflow. load i.flows coflow port) i entries c) (cap port lt) in
    omega (arith, slack_two_each i entries c (ordering_rests i entries ordering) loads, few_places i entries c)

pub twice_the_fronts : (i : Instance) (entries : List Entry) → IsOrdering i entries → sum_by (λ (x : Flow). x.units) i.flows ≤ 2 ^ 40 →
    slack i.flows i.weight entries ≤ 2 * front_loads i.flows entries
twice_the_fronts i entries ordering few =
    let c = ordering.certificate in
    slack_by_fronts i entries c (ordering_rests i entries ordering) (λ port lt. le_trans (within_units i.flows (front entries) port (apart_from_pairs (front entries) c.once)) few)

-- the slack of a report is that of the plan's certificate, whichever line is served
pub served_slack : (t : TableFacts) (weights line : List ℕ) (r : Report) → IsWeighed t weights → IsServedReport (instance_of t weights) t.ids line r →
    (entries : List Entry) × IsOrdering (instance_of t weights) entries × (r.slack ≤ 2 * front_loads t.flows entries)
    × (((port : Port) → port.number < t.ports → load_of_all t.flows (range_with_len 0 (length t.ids)) port ≤ 2 ^ 20) → r.slack ≤ 2 * length t.ids)
served_slack t weights line r h s =
    let i = instance_of t weights in
    let entries = entries_of s.order in
    let ordering = s.ordering.ordering in (
      entries,
      ordering,
      omega (arith, s.slack_is, twice_the_fronts i entries ordering h.table.few_units),
      (λ cap. omega (arith, s.slack_is, two_for_each i entries ordering cap, length-range_with_len 0 (length t.ids))),
    )

use Rattle.std.proofs.Common.{◌+◌, ◌<◌, length, map, sym, ap, subst, ◌∙◌, arith}
use Rattle.std.specs.Prelude.{All}
use Rattle.std.specs.List.Sorted.{IsNonDecreasingBy}
use Rattle.coflow_units.specs.declared.fabric.Flow.{Flow}
use Rattle.coflow_units.specs.declared.trace.CoflowLine.{CoflowLine}
use Rattle.coflow_units.specs.Trace.{ids_of}
use Rattle.coflow_units.specs.Starts.{IsStarts}
use Rattle.flow_table.specs.Table.{IsTable}
use Rattle.flow_table.proofs.TableSteps.{coflows_ascend, table_is}
use Rattle.flow_table.proofs.Within.{flows_within}
use Rattle.flow_table.proofs.table.Table.build.Goals as goal

pub starts_of-requires-clause-ascending : goal.starts_of-requires-clause-ascending
starts_of-requires-clause-ascending c =
    subst (IsNonDecreasingBy (λ (x : Flow). x.coflow)) (sym c.deref.ensures.value) (coflows_ascend c.in-Ok.flows.items c.in-Ok.ensures.flows.sorted)

pub starts_of-requires-clause-within : goal.starts_of-requires-clause-within
starts_of-requires-clause-within c =
    let within = flows_within c.args.trace.now c.args.unit c.in-Ok.flows.items c.requires.trace c.in-Ok.ensures.flows in
    subst (λ l. All (λ (x : Flow). x.coflow < length c.as_slice-lines.result.now) l) (sym c.deref.ensures.value)
    (λ k d lt. omega (arith, within.coflow k d lt, ap length c.as_slice-lines.ensures))

made : (c : goal.In_ok-arrivals) →
    IsTable record {
      flows = c.in-Ok.flows.items;
      starts = c.in_ok-starts.starts.items;
      ports = c.args.trace.now.number + 1;
      ids = c.in_ok-ids.ids.items;
      arrivals = c.in_ok-arrivals.arrivals.items;
    }
made c =
    let count = ap length c.as_slice-lines.ensures in
    table_is c.args.trace.now c.args.unit c.in-Ok.flows.items c.in_ok-starts.starts.items c.in_ok-ids.ids.items c.in_ok-arrivals.arrivals.items c.requires.trace
    (omega (arith, c.units_in_all-units.ensures)) c.in-Ok.ensures.flows c.in-Ok.ensures.few
    (omega (arith, c.in_ok-starts.ensures.count, count)) (subst (λ l. IsStarts l c.in_ok-starts.starts.items) c.deref.ensures.value c.in_ok-starts.ensures.starts)
    (λ k lt. c.in_ok-starts.ensures.rise k (omega arith))
    (c.in_ok-ids.ensures ∙ ap ids_of c.as_slice-lines.ensures) (c.in_ok-arrivals.ensures ∙ ap (map (λ (x : CoflowLine). x.arrival)) c.as_slice-lines.ensures)

pub invariant_of-result : goal.invariant_of-result
invariant_of-result c = made c

pub returns-clause-within_limits : goal.returns-clause-within_limits
returns-clause-within_limits c = made c

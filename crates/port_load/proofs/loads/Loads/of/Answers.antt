use Rattle.std.proofs.Common.{◌+◌, ◌<◌, length, take, take_all, sym, ap, subst, ◌∙◌, arith}
use Rattle.std.specs.Prelude.{if◌then◌else◌}
use Rattle.std.proofs.lemmas.List.Sums.{sum_by_more_le}
use Rattle.coflow_units.specs.declared.fabric.Flow.{Flow}
use Rattle.coflow_units.specs.Flows.{flow_at}
use Rattle.coflow_units.specs.Load.{load, loads}
use Rattle.port_load.proofs.FlowSteps.{load_more, loads_within, total_within}
use Rattle.port_load.proofs.loads.Loads.of.Goals as goal

pub add-requires-clause-units : goal.add-requires-clause-units
add-requires-clause-units c = λ port lp.
    let k = c.loop-flow.flow-index in
    let flows = c.args.flows.now in
    let lt : k < length flows = omega arith in
    let total = total_within (take k flows) c.loop-flow.loads port lp (λ coflow lc. omega (arith, c.loop-flow.invariant.loads_are coflow port lc lp)) in
    let part = sum_by_more_le (λ (x : Flow). x.units) flows k record { coflow = 0; ingress = 0; egress = 0; units = 0 } lt in
    omega (arith, total, part, c.requires.units)

pub loop-flow-preserved : goal.loop-flow-preserved
loop-flow-preserved c =
    let k = c.loop-flow.flow-index in
    let flows = c.args.flows.now in
    let lt : k < length flows = omega arith in
    let size = c.add.ensures.size in
    record {
      coflows_are = size.coflows ∙ c.loop-flow.invariant.coflows_are;
      ports_are = size.ports ∙ c.loop-flow.invariant.ports_are;
      loads_are = λ coflow port lc lp.
          let lc' = subst (λ n. coflow < n) size.coflows lc in
          let lp' = subst (λ n. port.number < n) size.ports lp in
          c.add.ensures.adds coflow port lc' lp' ∙
          ap (λ n. n + (if loads coflow port (flow_at flows k) then (flow_at flows k).units else 0)) (c.loop-flow.invariant.loads_are coflow port lc' lp')
          ∙ sym (load_more flows k coflow port record { coflow = 0; ingress = 0; egress = 0; units = 0 } lt);
    }

pub returns-clause-loads_are : goal.returns-clause-loads_are
returns-clause-loads_are c = λ coflow port lc lp.
    c.loop-flow.invariant.loads_are coflow port lc lp ∙ ap (λ xs. load xs coflow port) (take_all c.loop-flow.flow-index c.args.flows.now (omega arith))

pub returns-clause-totals_within : goal.returns-clause-totals_within
returns-clause-totals_within c = λ port lp.
    loads_within c.args.flows.now c.loop-flow.loads (returns-clause-loads_are c) port (subst (λ n. port.number < n) (sym c.loop-flow.invariant.ports_are) lp)

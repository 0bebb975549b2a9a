use Rattle.std.proofs.Common.{arith, ◌<◌, ◌≤◌, get_or, subst, take}
use Rattle.std.specs.Prelude.{All}
use Rattle.std.proofs.lemmas.List.{take_all}
use Rattle.std.proofs.lemmas.List.Elements.{All-more, All-weaker}
use Rattle.coflow_units.specs.declared.fabric.Flow.{Flow}
use Rattle.schedule_model.proofs.ports.port_count.Goals as goal

pub loop-flow-preserved : goal.loop-flow-preserved
loop-flow-preserved c =
    let flows = c.args.flows.now in
    let k = c.loop-flow.flow-index in
    let none : Flow = record { coflow = 0; ingress = 0; egress = 0; units = 0 } in
    let n = c.max-count.result in
    let grows : c.loop-flow.count ≤ n = grind (arith, c.max.ensures, c.max-count.ensures) in
    let ingress : (get_or flows k none).ingress < n = grind (arith, c.max.ensures, c.max-count.ensures) in
    let egress : (get_or flows k none).egress < n = grind (arith, c.max.ensures, c.max-count.ensures) in
    record {
      ingress = All-more (λ (x : Flow). x.ingress < n) flows k none c.loop-flow-test.true
          (All-weaker (λ (x : Flow). x.ingress < c.loop-flow.count) (λ (x : Flow). x.ingress < n) (λ x lt. omega (arith, lt, grows)) (take k flows) c.loop-flow.invariant.ingress)
          ingress;
      egress = All-more (λ (x : Flow). x.egress < n) flows k none c.loop-flow-test.true
          (All-weaker (λ (x : Flow). x.egress < c.loop-flow.count) (λ (x : Flow). x.egress < n) (λ x lt. omega (arith, lt, grows)) (take k flows) c.loop-flow.invariant.egress)
          egress;
    }

pub returns-clause-ingress : goal.returns-clause-ingress
returns-clause-ingress c = subst (All (λ (x : Flow). x.ingress < c.loop-flow.count)) (take_all c.loop-flow.flow-index c.args.flows.now c.loop-flow-test.false)
    c.loop-flow.invariant.ingress

pub returns-clause-egress : goal.returns-clause-egress
returns-clause-egress c = subst (All (λ (x : Flow). x.egress < c.loop-flow.count)) (take_all c.loop-flow.flow-index c.args.flows.now c.loop-flow-test.false)
    c.loop-flow.invariant.egress

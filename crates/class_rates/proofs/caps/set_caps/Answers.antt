use Rattle.std.proofs.Common.{◌≡◌, ◌∙◌, ℕ, arith, get_or, length, length-set, max, refl}
use Rattle.std.specs.Prelude.{nat_le}
use Rattle.coflow_units.specs.declared.fabric.Flow.{Flow}
use Rattle.coflow_units.specs.Flows.{coflow_of, egress_of, ingress_of}
use Rattle.coflow_units.specs.Patient.{egress_port, ingress_port}
use Rattle.class_rates.specs.Cap.{cap_of_flow}
use Rattle.class_rates.specs.Tallies.{coflows_of, number_at}
use Rattle.class_rates.proofs.CapSteps.{cap_is, capping_more, capping_not, load_within, own_load}
use Rattle.class_rates.proofs.caps.set_caps.Goals as goal

pub loop-flow-preserved-then-numbers-coflow : goal.loop-flow-preserved-then-numbers-coflow
loop-flow-preserved-then-numbers-coflow c = record {
  length_is = c.loop-flow.invariant.length_is;
  capping = capping_not c.args.flows.now c.args.numbers.now c.args.class c.loop-flow.caps c.loop-flow.flow-index c.if-numbers-coflow.true c.loop-flow.invariant.capping;
}

pub overflow_add-loads : goal.overflow_add-loads
overflow_add-loads c =
    let flows = c.args.flows.now in
    let numbers = c.args.numbers.now in
    let k = c.loop-flow.flow-index in
    let none : Flow = record { coflow = 0; ingress = 0; egress = 0; units = 0 } in
    let p = λ (x : ℕ). nat_le (number_at numbers x) c.args.class in
    omega (
      arith,
      c.requires.units,
      c.requires.ingress (ingress_of flows k) (c.requires.ingress_port k none c.loop-flow-test.true),
      c.requires.egress (egress_of flows k) (c.requires.egress_port k none c.loop-flow-test.true),
      load_within flows p (length numbers) (ingress_port flows k) c.requires.coflow,
      load_within flows p (length numbers) (egress_port flows k) c.requires.coflow,
    )

pub overflow_sub-loads : goal.overflow_sub-loads
overflow_sub-loads c =
    let flows = c.args.flows.now in
    let k = c.loop-flow.flow-index in
    let none : Flow = record { coflow = 0; ingress = 0; egress = 0; units = 0 } in
    omega (
      arith,
      c.requires.ingress (ingress_of flows k) (c.requires.ingress_port k none c.loop-flow-test.true),
      own_load flows c.args.numbers.now c.args.class k c.requires.coflow c.loop-flow-test.true c.if-numbers-coflow.false,
    )

pub loop-flow-preserved : goal.loop-flow-preserved
loop-flow-preserved c =
    let flows = c.args.flows.now in
    let numbers = c.args.numbers.now in
    let k = c.loop-flow.flow-index in
    let caps = c.loop-flow.caps in
    let none : Flow = record { coflow = 0; ingress = 0; egress = 0; units = 0 } in
    let own = c.if-numbers-coflow.false in
    let cap = cap_is flows numbers c.args.class k (get_or c.args.ingress.now (ingress_of flows k) 0) (get_or c.args.egress.now (egress_of flows k) 0) own
    (c.requires.ingress (ingress_of flows k) (c.requires.ingress_port k none c.loop-flow-test.true))
    (c.requires.egress (egress_of flows k) (c.requires.egress_port k none c.loop-flow-test.true)) in
    let is : c.max.result ≡ max (get_or caps (coflow_of flows k) 0) (cap_of_flow flows (coflows_of numbers) (number_at numbers) k) = grind (arith, c.max.ensures, cap) in
    record {
      length_is = length-set caps (coflow_of flows k) c.max.result ∙ c.loop-flow.invariant.length_is;
      capping = capping_more flows numbers c.args.class caps k (coflow_of flows k) c.max.result refl own c.loop-flow.invariant.length_is
          (c.requires.coflow k none c.loop-flow-test.true) is c.loop-flow.invariant.capping;
    }

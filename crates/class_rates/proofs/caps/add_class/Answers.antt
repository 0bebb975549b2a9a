use Rattle.std.proofs.Common.{◌<◌, arith, length}
use Rattle.std.proofs.lemmas.List.Sums.{get_or-le-sum_by}
use Rattle.coflow_units.specs.declared.fabric.Flow.{Flow}
use Rattle.class_rates.proofs.CapSteps.{adding_done, adding_fits}
use Rattle.class_rates.proofs.caps.add_class.Goals as goal

pub overflow_add-loads : goal.overflow_add-loads
overflow_add-loads c =
    let flows = c.args.flows.now in
    let k = c.loop-flow.flow-index in
    let none : Flow = record { coflow = 0; ingress = 0; egress = 0; units = 0 } in
    let lt : c.port_at.result < length c.loop-flow.loads = omega (arith, c.port_at.ensures, c.requires.port k none c.loop-flow-test.true, c.loop-flow.invariant.length_is) in
    omega (
      arith,
      adding_fits flows c.args.numbers.now c.args.class c.args.side c.loop-flow.loads k c.port_at.result c.requires.coflow c.requires.units c.loop-flow.invariant.adding lt,
      get_or-le-sum_by (λ (x : Flow). x.units) flows k none c.loop-flow-test.true,
      c.requires.units,
    )

pub returns : goal.returns
returns c = adding_done c.args.flows.now c.args.numbers.now c.args.class c.args.side c.loop-flow.loads c.loop-flow.flow-index c.requires.coflow c.loop-flow-test.false
    c.loop-flow.invariant.adding

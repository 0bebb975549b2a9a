use Rattle.std.proofs.Common.{arith}
use Rattle.coflow_units.specs.declared.fabric.Side.TheVariants.{Ingress, Egress}
use Rattle.port_load.proofs.FlowSteps.{AddsAt, port_of}
use Rattle.port_load.proofs.PendingSteps.{ingress_total}
use Rattle.port_load.proofs.loads.Loads.add_next.Goals as goal

pub overflow_add-result : goal.overflow_add-result
overflow_add-result c = omega (arith, c.requires.units (port_of Ingress c.args.flow.ingress) c.requires.ingress_in)

pub add_pending-requires-clause-units : goal.add_pending-requires-clause-units
add_pending-requires-clause-units c = λ some.
    let e = c.add_at.ensures in
    let x = c.args.flow in
    let p = c.args.pending in
    let adds : AddsAt c.args.self.now c.add_at.new.self x.coflow (port_of Egress x.egress) x.units =
    record { size = e.size; added = e.added; others = e.others; elsewhere = e.elsewhere } in
    let lp = c.requires.pending_in some in
    omega (arith, ingress_total c.args.self.now c.add_at.new.self x.coflow x.egress x.units p.ingress adds lp, c.requires.units (port_of Ingress p.ingress) lp)

use Rattle.std.proofs.Common.{arith}
use Rattle.coflow_units.specs.declared.fabric.Side.TheVariants.{Ingress, Egress}
use Rattle.port_load.proofs.FlowSteps.{AddsAt, flow_added, port_of, total_elsewhere}
use Rattle.port_load.proofs.loads.Loads.add.Goals as goal

pub add_at-requires-2-clause-units_fit : goal.add_at-requires-2-clause-units_fit
add_at-requires-2-clause-units_fit c =
    let e = c.add_at.ensures in
    let first : AddsAt c.args.self.now c.add_at.new.self c.args.flow.coflow (port_of Ingress c.args.flow.ingress) c.args.flow.units =
    record { size = e.size; added = e.added; others = e.others; elsewhere = e.elsewhere } in
    omega (
      arith,
      total_elsewhere c.args.self.now c.add_at.new.self c.args.flow.coflow c.args.flow.ingress c.args.flow.units c.args.flow.egress first c.requires.ingress_in
          c.requires.egress_in,
      c.requires.units (port_of Egress c.args.flow.egress) c.requires.egress_in,
    )

pub returns-clause-adds : goal.returns-clause-adds
returns-clause-adds c = λ coflow port lc lp.
    let e = c.add_at.ensures in
    let f = c.add_at-2.ensures in
    let first : AddsAt c.args.self.now c.add_at.new.self c.args.flow.coflow (port_of Ingress c.args.flow.ingress) c.args.flow.units =
    record { size = e.size; added = e.added; others = e.others; elsewhere = e.elsewhere } in
    let second : AddsAt c.add_at.new.self c.add_at-2.new.self c.args.flow.coflow (port_of Egress c.args.flow.egress) c.args.flow.units =
    record { size = f.size; added = f.added; others = f.others; elsewhere = f.elsewhere } in
    flow_added c.args.self.now c.add_at.new.self c.add_at-2.new.self c.args.flow first second c.requires.ingress_in c.requires.egress_in coflow port lc lp

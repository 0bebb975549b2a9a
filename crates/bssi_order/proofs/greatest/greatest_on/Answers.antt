use Rattle.std.proofs.Common.{◌<◌, arith}
use Rattle.bssi_order.proofs.BoundSteps.{first_port}
use Rattle.bssi_order.proofs.greatest.greatest_on.Goals as goal

pub first_greatest-best-requires-clause-bounded : goal.first_greatest-best-requires-clause-bounded
first_greatest-best-requires-clause-bounded c = λ k lt inside.
    let lt' : k < c.args.loads.now.ports = omega (arith, lt, c.totals-totals.ensures.count) in
    omega (arith, c.totals-totals.ensures.totals k lt', c.requires.bounded k lt' inside)

pub first_greatest-best-requires-clause-all : goal.first_greatest-best-requires-clause-all
first_greatest-best-requires-clause-all c = omega (arith, c.totals-totals.ensures.count, c.ports.ensures.ports_are, c.ports.ensures.has_ports)

pub first_greatest-best-requires-clause-none_empty : goal.first_greatest-best-requires-clause-none_empty
first_greatest-best-requires-clause-none_empty c = omega (arith, c.totals-totals.ensures.count, c.ports.ensures.ports_are, c.ports.ensures.has_ports)

pub first_greatest-best-requires-clause-room : goal.first_greatest-best-requires-clause-room
first_greatest-best-requires-clause-room c = omega (arith, c.requires.len, c.ports.ensures.ports_are, c.ports.ensures.has_ports, c.ports.ensures.limit)

pub returns-clause-bounded : goal.returns-clause-bounded
returns-clause-bounded c = λ number lt inside.
    omega (arith, c.totals-totals.ensures.totals number lt, c.first_greatest-best.ensures.bounded number (omega (arith, lt, c.totals-totals.ensures.count)) inside)

pub returns-clause-greatest : goal.returns-clause-greatest
returns-clause-greatest c = first_port c.args.loads.now c.args.side c.totals-totals.result.now c.first_greatest-best.result c.totals-totals.ensures.count
    c.totals-totals.ensures.totals c.first_greatest-best.ensures.greatest

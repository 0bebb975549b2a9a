use Rattle.std.proofs.Common.{arith}
use Rattle.matching.proofs.ShownSteps.{at_most_ports}
use Rattle.matching.proofs.matching.Matching.count.Goals as goal

pub overflow_cast-result : goal.overflow_cast-result
overflow_cast-result c =
    let w = c.self.invariant in
    let l = c.self.inside.tables.listing in
    omega (arith, c.len.ensures, at_most_ports w.listing, w.room.listing.shown, w.room.few_ports, l.flows.ok)

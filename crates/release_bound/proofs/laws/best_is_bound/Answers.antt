use Rattle.std.proofs.Common.{arith, ap}
use Rattle.release_bound.specs.declared.threshold.Threshold.TheVariants.{One}
use Rattle.release_bound.specs.Release.{released_total}
use Rattle.release_bound.proofs.laws.best_is_bound.Goals as goal

pub returns-clause-bound : goal.returns-clause-bound
returns-clause-bound c = λ i arrival places total slots best released.
    omega (arith, best.total_is, c.released_ordering_is_feasible.ensures.total best.by i arrival places slots best.certificate released)

pub returns-clause-online : goal.returns-clause-online
returns-clause-online c = λ i arrival places printed total best order.
    let (others, released, most, less) = best.best One in
    let same = c.released_ordering_is_one.ensures One i arrival printed others order released in
    omega (arith, most, ap (released_total i.flows arrival i.ports) same)

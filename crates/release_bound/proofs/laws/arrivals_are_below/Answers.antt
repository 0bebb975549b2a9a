use Rattle.std.proofs.Common.{arith}
use Rattle.release_bound.specs.declared.threshold.Threshold.TheVariants.{Zero}
use Rattle.release_bound.proofs.Trivial.{arrivals_within}
use Rattle.release_bound.proofs.laws.arrivals_are_below.Goals as goal

pub returns : goal.returns
returns c = λ i arrival places total once best.
    let (others, by, most, less) = best.best Zero in
    omega (arith, most, arrivals_within i arrival others once by (c.zero_is_trivial.ensures.y i arrival others by) (c.zero_is_trivial.ensures.z i arrival others by))

use Rattle.std.proofs.Common.{length, arith}
use Rattle.rankers.proofs.KeyOrders.{numbered_is_range}
use Rattle.rankers.proofs.by_key.number.Goals as goal

pub returns : goal.returns
returns c = numbered_is_range c.loop-place.out (length c.args.out.now) c.loop-place.place c.loop-place.invariant.count (omega (arith, c.loop-place-test.false))
    c.loop-place.invariant.numbered

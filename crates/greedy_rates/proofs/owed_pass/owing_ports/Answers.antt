use Rattle.std.proofs.Common.{arith}
use Rattle.greedy_rates.proofs.OpenPortSteps.{count_more, count_same}
use Rattle.greedy_rates.proofs.owed_pass.owing_ports.Goals as goal

pub loop-units-preserved-then-units-eq0 : goal.loop-units-preserved-then-units-eq0
loop-units-preserved-then-units-eq0 c = record {
  few = omega (arith, c.loop-units.invariant.few);
  counted = count_same c.args.owed.now c.loop-units.units-index c.loop-units.count c.if-units-eq0.true c.loop-units.invariant.counted;
}

pub loop-units-preserved : goal.loop-units-preserved
loop-units-preserved c = record {
  few = omega (arith, c.loop-units.invariant.few);
  counted = count_more c.args.owed.now c.loop-units.units-index c.loop-units.count (omega (arith, c.if-units-eq0.false)) c.loop-units.invariant.counted;
}

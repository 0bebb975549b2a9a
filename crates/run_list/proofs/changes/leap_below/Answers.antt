use Rattle.std.proofs.Common.{◌+◌, arith}
use Rattle.run_list.proofs.Merging.{never_falls}
use Rattle.run_list.proofs.changes.leap_below.Goals as goal

pub loop-place-preserved : goal.loop-place-preserved
loop-place-preserved c = record {
  within = omega arith;
  below = λ k lt. omega (arith, never_falls c.args.numbers.now c.requires.ascending (c.loop-place.place + 15) k (omega arith) (omega arith));
}

-- the search goes on from the power
use Rattle.std.proofs.Common.{◌≡◌, ◌≤◌, ◌<◌, ◌-◌, ◌*◌, ◌^◌, ◌⊎◌}
use Rattle.picture.specs.Ticks.{step_from, step_of}
use Rattle.picture.proofs.ticks.step_of.Given as goal

abbrev pub invariant-loop : goal.invariant-loop
invariant-loop l = record {
  same : step_from (13 - l.counter) l.power l.count ≡ step_of l.count;
  some : 1 ≤ l.power;
  power_is : l.power ≡ 10 ^ l.counter;
  low : (l.power ≡ 1) ⊎ (3 * l.power < l.count);
}

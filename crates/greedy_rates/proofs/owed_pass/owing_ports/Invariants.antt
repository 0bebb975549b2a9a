-- the ports so far are counted
use Rattle.std.proofs.Common.{◌≡◌, ◌≤◌, cond, get_or}
use Rattle.std.specs.Prelude.{nat_lt, sum_by}
use Rattle.std.specs.List.{range_with_len}
use Rattle.greedy_rates.proofs.owed_pass.owing_ports.Given as goal

abbrev pub invariant-loop-units : goal.invariant-loop-units
invariant-loop-units l = record {
  few : l.count ≤ l.units-index;
  counted : l.count ≡ sum_by (λ p. cond (nat_lt 0 (get_or l.owed p 0)) 1 0) (range_with_len 0 l.units-index);
}

-- so many wires were made, and there is room for all
use Rattle.std.proofs.Common.{◌≡◌, ◌≤◌, length, vec_capacity}
use Rattle.run_bench.proofs.wires_waiting.Given as goal

abbrev pub invariant-loop-made : goal.invariant-loop-made
invariant-loop-made g l = record {
  many : length l.wires.items ≡ l.made;
  room : l.count ≤ vec_capacity l.wires;
}

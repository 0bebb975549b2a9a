-- the flows so far are those from the first one on
use Rattle.std.proofs.Common.{◌≡◌, ℕ, ◌+◌, ◌<◌, get_or, length}
use Rattle.text_tests.proofs.long_texts.flows_from.Given as goal

abbrev pub invariant-loop-flow : goal.invariant-loop-flow
invariant-loop-flow g l = record {
  count : l.first + length l.flows.items ≡ l.flow;
  each : (k : ℕ) → k < length l.flows.items → get_or l.flows.items k 0 ≡ l.first + k;
}

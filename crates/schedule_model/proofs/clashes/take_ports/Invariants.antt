-- the ports of the flows so far have marks, and the least of them that had one already
use Rattle.std.proofs.Common.{◌≤◌, ◌<◌, ◌⊎◌, ℕ, false, get_or, length, take}
use Rattle.std.specs.Prelude.{◌↔◌, IsTrue, MatchOption}
use Rattle.schedule_model.specs.Repeat.{IsTaken, Uses}
use Rattle.schedule_model.proofs.clashes.take_ports.Given as goal

abbrev pub invariant-loop-flow : goal.invariant-loop-flow
invariant-loop-flow l = record {
  marked : (p : ℕ) → p < length l.used → IsTrue (get_or l.used p false) ↔ (IsTrue (get_or l.fn.used p false) ⊎ Uses l.flows l.side (take l.flow-index l.new) p);
  least : MatchOption l.least ((p : ℕ) → IsTaken l.flows l.side l.fn.used (take l.flow-index l.new) p → ⊥)
      (λ p. IsTaken l.flows l.side l.fn.used (take l.flow-index l.new) p × ((q : ℕ) → IsTaken l.flows l.side l.fn.used (take l.flow-index l.new) q → p ≤ q));
}

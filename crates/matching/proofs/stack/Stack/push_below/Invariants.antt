-- the ports from here on wait
use Rattle.std.proofs.Common.{◌≡◌, ◌<◌, ◌≤◌, ℕ, Contains}
use Rattle.matching.proofs.stack.Stack.push_below.Given as goal

abbrev pub invariant-below : goal.invariant-below
invariant-below l = record {
  room : l.self.room ≡ l.fn.self.room;
  within : l.port ≤ l.ports;
  all : (p : ℕ) → l.port ≤ p → p < l.ports → Contains l.self.ports p;
}

abbrev pub decreases-below : goal.decreases-below
decreases-below l = l.port

-- the room stays
use Rattle.std.proofs.Common.{◌≡◌, length}
use Rattle.matching.proofs.stack.Stack.clear.Given as goal

abbrev pub invariant-loop : goal.invariant-loop
invariant-loop l = l.self.room ≡ l.fn.self.room

abbrev pub decreases-loop : goal.decreases-loop
decreases-loop l = length l.self.ports

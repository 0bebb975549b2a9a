-- the places so far
use Rattle.std.proofs.Common.{◌≡◌, ◌<◌, ◌+◌, ℕ, get_or, length}
use Rattle.picture.proofs.order.places_of.Given as goal

abbrev pub invariant-loop-k : goal.invariant-loop-k
invariant-loop-k l = record {
  long : length l.places.items ≡ l.coflows;
  placed : (j : ℕ) → j < l.k → get_or l.places.items (get_or l.order j 0) 0 ≡ j + 1;
}

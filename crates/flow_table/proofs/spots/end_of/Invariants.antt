-- all spots from the first one on are at the location so far
use Rattle.std.proofs.Common.{◌≡◌, ℕ, ◌-◌, ◌<◌, ◌≤◌, get_or, length}
use Rattle.flow_table.specs.declared.spots.Spot.{Spot}
use Rattle.flow_table.proofs.spots.end_of.Given as goal

abbrev pub invariant-loop-end : goal.invariant-loop-end
invariant-loop-end l = record {
  bound : (l.first ≤ l.end) × (l.end ≤ length l.spots);
  own : (s : ℕ) (d : Spot) → l.first ≤ s → s < l.end → (get_or l.spots s d).location ≡ l.location;
}

abbrev pub decreases-loop-end : goal.decreases-loop-end
decreases-loop-end l = length l.spots - l.end

-- all flows from the first one on are of the coflow so far
use Rattle.std.proofs.Common.{◌≡◌, ℕ, ◌-◌, ◌<◌, ◌≤◌, length}
use Rattle.coflow_units.specs.Flows.{coflow_of}
use Rattle.flow_table.proofs.starts.end_of_coflow.Given as goal

abbrev pub invariant-loop-end : goal.invariant-loop-end
invariant-loop-end l = record {
  bound : (l.first ≤ l.end) × (l.end ≤ length l.flows);
  own : (f : ℕ) → l.first ≤ f → f < l.end → coflow_of l.flows f ≡ l.coflow;
}

abbrev pub decreases-loop-end : goal.decreases-loop-end
decreases-loop-end l = length l.flows - l.end

use Rattle.std.proofs.Common.{◌≡◌, ℕ, ◌-◌, ◌<◌, ◌≤◌}
use Rattle.port_load.specs.LoadTable.{load_at}
use Rattle.port_load.proofs.loads.Loads.next_loaded.Given as goal

abbrev pub invariant-marked : goal.invariant-marked
invariant-marked l = record {
  after : l.from ≤ l.coflow;
  within : l.coflow ≤ l.columns;
  none : (c : ℕ) → l.from ≤ c → c < l.coflow → load_at l.self c l.fn.port ≡ 0;
}

abbrev pub decreases-marked : goal.decreases-marked
decreases-marked l = l.columns - l.coflow

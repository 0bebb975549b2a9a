-- so many gates are made, none was passed, and there is room for the others
use Rattle.std.proofs.Common.{◌≡◌, ◌≤◌, false, length}
use Rattle.std.specs.Prelude.{All, vec_capacity}
use Rattle.coflow_units.specs.declared.limits.TheConstants.{MAX_CLIENTS}
use Rattle.job_runs.proofs.gates.gates_meeting.Given as goal

abbrev pub invariant-loop-client : goal.invariant-loop-client
invariant-loop-client l = record {
  count : length l.gates.items ≡ l.client;
  closed : All (λ g. g.passed ≡ false) l.gates.items;
  nobody : All (λ g. g.gave_up ≡ false) l.gates.items;
  room : MAX_CLIENTS ≤ vec_capacity l.gates;
}

-- so many wires are made, none has accepted a run or given up, and there is room for the others
use Rattle.std.proofs.Common.{◌≡◌, ◌+◌, ◌≤◌, length}
use Rattle.std.specs.Prelude.{All, vec_capacity}
use Rattle.coflow_units.specs.declared.limits.TheConstants.{MAX_PORTS}
use Rattle.job_runs.specs.Wires.{IsFresh}
use Rattle.job_runs.proofs.wires.wires_meeting.Given as goal

abbrev pub invariant-loop-port : goal.invariant-loop-port
invariant-loop-port l = record {
  count : length l.wires.items ≡ l.port;
  fresh : All (λ w. IsFresh w.wire) l.wires.items;
  nobody : All (λ w. w.given_up ≡ 0) l.wires.items;
  room : MAX_PORTS + 1 ≤ vec_capacity l.wires;
}

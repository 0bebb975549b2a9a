-- the driver and the sessions stay in the hall, and there is room for the places
use Rattle.std.proofs.Common.{◌≤◌}
use Rattle.std.specs.Prelude.{All, vec_capacity}
use Rattle.client_session.specs.Models.{IsDriverOf, IsSessionOf}
use Rattle.hall_tests.proofs.rows.play_rows.Given as goal

abbrev pub invariant-loop-row : goal.invariant-loop-row
invariant-loop-row g l = record {
  driver : IsDriverOf l.hall l.driver;
  sessions : All (IsSessionOf l.hall) l.sessions;
  room : 2 ≤ vec_capacity l.places;
}

-- so many sessions were made, all are of the hall, and there is room for the others
use Rattle.std.proofs.Common.{◌≡◌, ◌≤◌, length}
use Rattle.std.specs.Prelude.{All, vec_capacity}
use Rattle.client_session.specs.Models.{IsDriverOf, IsSessionOf}
use Rattle.test_support.specs.Begun.{HasTurns}
use Rattle.test_support.proofs.begun.sessions_of.Given as goal

abbrev pub invariant-loop-before : goal.invariant-loop-before
invariant-loop-before l = record {
  own : IsDriverOf l.hall l.driver;
  made : l.driver.made ≡ l.before;
  left : l.driver.left ≡ l.fn.driver.left;
  sessions : All (IsSessionOf l.hall) l.sessions.items;
  turns : All (HasTurns l.calls) l.sessions.items;
  count : length l.sessions.items ≡ l.before;
  room : l.count ≤ vec_capacity l.sessions;
}

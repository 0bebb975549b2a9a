-- so many sessions were made, one for each client, and all are of the hall
use Rattle.std.proofs.Common.{◌≡◌, ◌≤◌, length, vec_capacity}
use Rattle.std.specs.Prelude.{All}
use Rattle.client_session.specs.Models.{IsSessionOf}
use Rattle.live_serving.specs.Followed.{AreBegun}
use Rattle.live_serving.proofs.seats.seat_clients.Given as goal

abbrev pub invariant-loop-made : goal.invariant-loop-made
invariant-loop-made l = record {
  driver : l.driver ≡ record l.fn.driver { made = l.made };
  own : All (IsSessionOf l.hall) l.sessions.items;
  begun : AreBegun l.calls 1 l.sessions.items;
  as_many : length l.sessions.items ≡ l.made;
  room : l.clients ≤ vec_capacity l.sessions;
}

-- so many sessions were made, their clients are ready, and there is room for the others
use Rattle.std.proofs.Common.{◌≡◌, ◌≤◌, length}
use Rattle.std.specs.Prelude.{All, vec_capacity}
use Rattle.client_session.specs.Models.{IsDriverOf}
use Rattle.hall_runs.specs.Callers.{IsClientOf}
use Rattle.hall_runs.proofs.seats.clients_of.Given as goal

abbrev pub invariant-loop-before : goal.invariant-loop-before
invariant-loop-before l = record {
  own : IsDriverOf l.hall l.driver;
  made : l.driver.made ≡ l.before;
  clients : All (IsClientOf l.hall l.commands) l.clients.items;
  count : length l.clients.items ≡ l.before;
  room : 7 ≤ vec_capacity l.clients;
}

-- the driver stays in its hall, and there is room for the answers to come and for the places
use Rattle.std.proofs.Common.{◌+◌, ◌≤◌, length}
use Rattle.std.specs.Prelude.{vec_capacity}
use Rattle.client_session.specs.Models.{IsDriverOf}
use Rattle.hall_runs.proofs.callers.Pilot.play.Given as goal

abbrev pub invariant-loop-turn : goal.invariant-loop-turn
invariant-loop-turn g l = record {
  own : IsDriverOf l.hall l.self.driver;
  room : length l.self.said.items + l.size.commands ≤ vec_capacity l.self.said + l.turn;
  places : length l.hall.setting.opening.table.ids ≤ vec_capacity l.self.places;
}

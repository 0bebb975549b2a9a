-- the session stays in its hall, and there is room for the answers to come
use Rattle.std.proofs.Common.{◌+◌, ◌≤◌, length}
use Rattle.std.specs.Prelude.{vec_capacity}
use Rattle.client_session.specs.Models.{IsSessionOf}
use Rattle.hall_runs.proofs.callers.Client.play.Given as goal

abbrev pub invariant-loop-turn : goal.invariant-loop-turn
invariant-loop-turn g l = record {
  own : IsSessionOf l.hall l.self.session;
  room : length l.self.said.items + l.size.commands ≤ vec_capacity l.self.said + l.turn;
}

-- the sessions that were taken and those that are left are of the hall, and there is room for these
use Rattle.std.proofs.Common.{◌+◌, ◌≤◌, length}
use Rattle.std.specs.Prelude.{All, vec_capacity}
use Rattle.std.specs.Vec.Iter.{into_iter_items}
use Rattle.client_session.specs.Models.{IsSessionOf}
use Rattle.hall_runs.specs.declared.callers.Client.{Client}
use Rattle.hall_runs.proofs.closing.sessions_of.Given as goal

abbrev pub invariant-loop-client : goal.invariant-loop-client
invariant-loop-client l = record {
  left : All (λ (c : Client). IsSessionOf l._hall c.session) (into_iter_items l.client-iterator);
  taken : All (IsSessionOf l._hall) l.sessions.items;
  room : length l.sessions.items + length (into_iter_items l.client-iterator) ≤ vec_capacity l.sessions;
}

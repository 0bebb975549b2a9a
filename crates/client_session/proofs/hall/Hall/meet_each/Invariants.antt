use Rattle.std.proofs.Common.{◌≡◌, ℕ, ◌≤◌, take}
use Rattle.std.specs.Prelude.{slice_index_or}
use Rattle.client_session.specs.Levels.{IsMetByEach}
use Rattle.client_session.specs.Models.{SessionModel}
use Rattle.client_session.proofs.hall.Hall.meet_each.Given as goal

abbrev pub invariant-loop-session : goal.invariant-loop-session
invariant-loop-session l = record {
  met : IsMetByEach l.fn.driver l.driver l.fn.heard l.heard (take l.session-index l.fn.sessions) (take l.session-index l.sessions);
  rest : (i : ℕ) (d : SessionModel) → l.session-index ≤ i → slice_index_or l.sessions i d ≡ slice_index_or l.fn.sessions i d;
}

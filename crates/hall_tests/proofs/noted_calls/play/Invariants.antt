-- the session stays in its hall
use Rattle.client_session.specs.Models.{IsSessionOf}
use Rattle.hall_tests.proofs.noted_calls.play.Given as goal

abbrev pub invariant-loop-call : goal.invariant-loop-call
invariant-loop-call g l = IsSessionOf l.hall l.session

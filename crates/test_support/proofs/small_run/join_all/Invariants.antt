-- the session stays in its hall
use Rattle.client_session.specs.Models.{IsSessionOf}
use Rattle.test_support.proofs.small_run.join_all.Given as goal

abbrev pub invariant-loop-coflow : goal.invariant-loop-coflow
invariant-loop-coflow g l = IsSessionOf l.hall l.session

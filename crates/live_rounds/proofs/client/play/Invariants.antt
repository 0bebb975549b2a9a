-- the lines so far are carried out
use Rattle.client_session.specs.Models.{IsSessionOf}
use Rattle.live_rounds.proofs.Steps.{PlaysSoFar}
use Rattle.live_rounds.proofs.client.play.Given as goal

abbrev pub invariant-loop-index : goal.invariant-loop-index
invariant-loop-index g l = record {
  own : IsSessionOf l.hall l.session;
  so_far : PlaysSoFar l.fn.session l.session l.fn.part l.part l.index;
}

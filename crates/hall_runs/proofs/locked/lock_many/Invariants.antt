-- at most as many commands more were carried out as turns are over
use Rattle.hall_runs.specs.Locked.{HasAsked}
use Rattle.hall_runs.proofs.locked.lock_many.Given as goal

abbrev pub invariant-loop-turn : goal.invariant-loop-turn
invariant-loop-turn g l = HasAsked l.turn l.fn.caller l.caller

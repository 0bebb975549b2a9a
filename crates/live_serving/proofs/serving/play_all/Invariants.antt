-- so many rounds are done
use Rattle.std.proofs.Common.{◌≡◌, length, Ok}
use Rattle.live_serving.specs.Going.{IsGoing}
use Rattle.live_serving.specs.Openings.{AreServed}
use Rattle.live_serving.proofs.serving.play_all.Given as goal

abbrev pub invariant-loop-done : goal.invariant-loop-done
invariant-loop-done g l = record {
  going : IsGoing l.stage.hall.now l.stage.script.now l.stage.most l.done l.crew.runner l.sessions l.pulls.items;
  gates : length l.gates ≡ length l.sessions;
  wires : AreServed g.W.Wire.faults g.W.Wire.runs {S = Unit {0}} l.stage.hall.now l.fn.crew.runner l.crew.runner l.fn.crew.wires l.crew.wires (Ok tt);
  at : l.crew.at ≡ l.fn.crew.at;
  places : l.crew.places ≡ l.fn.crew.places;
}

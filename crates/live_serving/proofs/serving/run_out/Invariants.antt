-- runs were opened after the last round
use Rattle.std.proofs.Common.{◌≡◌, ◌-◌, Ok}
use Rattle.journal.specs.Fold.{state_of}
use Rattle.journal.specs.State.{slot_end}
use Rattle.live_serving.specs.Going.{IsEnding}
use Rattle.live_serving.specs.Openings.{AreServed}
use Rattle.live_serving.proofs.serving.run_out.Given as goal

abbrev pub invariant-runs : goal.invariant-runs
invariant-runs g l = record {
  ending : IsEnding l.stage.hall.now l.stage.script.now l.stage.most l.crew.runner l._sessions l._pulls;
  wires : AreServed g.W.Wire.faults g.W.Wire.runs {S = Unit {0}} l.stage.hall.now l.fn.crew.runner l.crew.runner l.fn.crew.wires l.crew.wires (Ok tt);
  at : l.crew.at ≡ l.fn.crew.at;
  places : l.crew.places ≡ l.fn.crew.places;
}

abbrev pub decreases-runs : goal.decreases-runs
decreases-runs g l = slot_end - (state_of l.stage.hall.now.setting.opening l.crew.runner.driver.journal).next

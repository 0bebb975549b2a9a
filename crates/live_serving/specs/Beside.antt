-- What the serving of a script by a crew comes to.
use Rattle.std.specs.Prelude.{◌≡◌, ℕ, List, map, Option, Result, Err, OnOk}
use Rattle.workload.specs.declared.script.Script.{Script}
use Rattle.client_session.specs.Models.{HallModel, SessionModel}
use Rattle.crews.specs.Sections.{ended}
use Rattle.slot_runner.specs.Crews.{CrewModel}
use Rattle.live_rounds.specs.declared.answer.PullDone.{PullDone}
use Rattle.live_serving.specs.declared.stop.Stop.{Stop}
use Rattle.live_serving.specs.declared.stop.Stop.TheVariants.{Full}
use Rattle.live_serving.specs.Going.{IsEnded, IsFilled}
use Rattle.live_serving.specs.Openings.{AreServed}

module _ {W : Type 0} (faults : W → ℕ) (runs : W → Option (List (ℕ × ℕ × ℕ))) where
  -- the work is ended, or someone met a journal without room, or the run stopped for another cause; the wires have what
  -- the journal sent; and the helpers of the crew have ended
  pub record IsRunServed (hall : HallModel) (script : Script) (most : ℕ) (old new : CrewModel W)
      (sessions : List SessionModel) (pulls : List PullDone) (answer : Result (Unit {0}) Stop) : Type 0 where
    pub done : OnOk answer (IsEnded hall script most new.runner.driver sessions pulls)
    pub filled : answer ≡ Err Full → IsFilled hall script most new.runner.driver sessions
    pub wires : AreServed faults runs hall old.runner new.runner old.wires new.wires answer
    pub over : new.places ≡ map ended old.places

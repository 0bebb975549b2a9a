-- A crew from step to step, and once its helpers have ended.
use Rattle.std.proofs.Common.{◌≡◌, ℕ, List, length, map, sym, ap, arith, ◌∙◌, subst, Option, Result}
use Rattle.workload.specs.declared.script.Script.{Script}
use Rattle.client_session.specs.Models.{HallModel, SessionModel}
use Rattle.crews.specs.Sections.{AreReady, ended}
use Rattle.slot_runner.specs.Models.{MayRun}
use Rattle.slot_runner.specs.declared.crew.Site.{Site}
use Rattle.slot_runner.specs.Crews.{CrewModel, IsAt}
use Rattle.live_rounds.specs.declared.answer.PullDone.{PullDone}
use Rattle.live_serving.specs.declared.stop.Stop.{Stop}
use Rattle.live_serving.specs.Beside.{IsRunServed}

module _ {W : Type 0} where
  module _ (faults : W → ℕ) (runs : W → Option (List (ℕ × ℕ × ℕ))) where
    pub served_so : (hall : HallModel) (script : Script) (most : ℕ) (old mid new : CrewModel W) (sessions : List SessionModel) (pulls : List PullDone)
        (answer : Result (Unit {0}) Stop) →
        new ≡ (record mid { places = map ended mid.places }) → mid.places ≡ old.places →
        (map ended mid.places ≡ map ended old.places → IsRunServed faults runs hall script most old (record mid { places = map ended mid.places }) sessions pulls answer) →
        IsRunServed faults runs hall script most old new sessions pulls answer
    served_so hall script most old mid new sessions pulls answer is places made =
        subst (λ (m : CrewModel W). IsRunServed faults runs hall script most old m sessions pulls answer) (sym is) (made (ap (map ended) places))

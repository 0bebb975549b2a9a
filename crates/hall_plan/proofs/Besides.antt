-- A crew that served a plan, once its helpers have ended.
use Rattle.std.proofs.Common.{◌≡◌, ℕ, ◌≤◌, List, length, map, sym, ap, ◌∙◌, subst, Option, Result}
use Rattle.client_session.specs.Models.{HallModel}
use Rattle.crews.specs.Sections.{AreReady, ended}
use Rattle.slot_runner.specs.declared.crew.Site.{Site}
use Rattle.slot_runner.specs.Crews.{CrewModel, IsAt}
use Rattle.hall_plan.specs.declared.answer.PlanFault.{PlanFault}
use Rattle.hall_plan.specs.Beside.{IsPlanServed}

module _ {W : Type 0} where
  module _ (faults : W → ℕ) (runs : W → Option (List (ℕ × ℕ × ℕ))) where
    pub served_so : (hall : HallModel) (old mid new : CrewModel W) (result : Result (List (List ℕ)) PlanFault) → new ≡ (record mid { places = map ended mid.places }) → mid.places
        ≡ old.places
        → (map ended mid.places ≡ map ended old.places → IsPlanServed faults runs hall old (record mid { places = map ended mid.places }) result) → IsPlanServed faults runs hall
        old new result
    served_so hall old mid new result is places made =
        subst (λ (m : CrewModel W). IsPlanServed faults runs hall old m result) (sym is) (made (ap (λ l. map ended l) places))

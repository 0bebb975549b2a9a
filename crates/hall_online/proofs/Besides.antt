-- What stays of a crew from step to step, and what its serving comes to once its helpers have ended.
use Rattle.std.proofs.Common.{◌≡◌, ℕ, List, map, sym, ap, ◌∙◌, subst, Option, Result}
use Rattle.std.specs.Prelude.{⊤}
use Rattle.client_session.specs.Models.{HallModel}
use Rattle.crews.specs.Sections.{ended}
use Rattle.slot_runner.specs.declared.crew.Site.{Site}
use Rattle.slot_runner.specs.Crews.{CrewModel, IsAt}
use Rattle.slot_runner.proofs.Sites.{still_at}
use Rattle.hall_online.specs.declared.answer.OnlineFault.{OnlineFault}
use Rattle.hall_online.specs.declared.beginning.Kept.{Kept}
use Rattle.hall_online.specs.Beside.{IsOnlineServed, KeepsAllElse, StaysAt}

module _ {W : Type 0} where
  pub stays_at : (old new : CrewModel W) → new.at ≡ old.at → new.places ≡ old.places → new.runner.ports ≡ old.runner.ports → StaysAt old new
  stays_at old new at places ports = record { at = at; places = places; ports = ports }

  pub stays_on : (old mid new : CrewModel W) → StaysAt old mid → StaysAt mid new → StaysAt old new
  stays_on old mid new h k = record { at = k.at ∙ h.at; places = k.places ∙ h.places; ports = k.ports ∙ h.ports }

  -- where the driver alone took a turn
  pub stays_beside : (old new : CrewModel W) → KeepsAllElse old new → StaysAt old new
  stays_beside old new keeps = record {
    at = ap (λ (c : CrewModel W). c.at) keeps;
    places = ap (λ (c : CrewModel W). c.places) keeps;
    ports = ap (λ (c : CrewModel W). c.runner.ports) keeps;
  }

  pub site_stays : (site : Site W) (old new : CrewModel W) → IsAt site old → StaysAt old new → IsAt site new
  site_stays site old new here stays = still_at site old new here stays.at stays.places stays.ports

  module _ (faults : W → ℕ) (runs : W → Option (List (ℕ × ℕ × ℕ))) where
    pub dismissed : (hall : HallModel) (old mid new : CrewModel W) (before after : Kept) (result : Result ⊤ OnlineFault) → new ≡ (record mid { places = map ended mid.places }) →
        mid.places ≡ old.places →
        (map ended mid.places ≡ map ended old.places → IsOnlineServed faults runs hall old (record mid { places = map ended mid.places }) before after result) →
        IsOnlineServed faults runs hall old new before after result
    dismissed hall old mid new before after result is places made =
        subst (λ (m : CrewModel W). IsOnlineServed faults runs hall old m before after result) (sym is)
        (made (ap (λ l. map ended l) places))

-- A crew at its site.
use Rattle.std.proofs.Common.{◌≡◌, ◌≤◌, length, sym, ◌∙◌, subst}
use Rattle.crews.specs.Sections.{AreReady}
use Rattle.slot_runner.specs.declared.crew.Site.{Site}
use Rattle.slot_runner.specs.Crews.{CrewModel, IsAt}

module _ {W : Type 0} where
  -- it is at its site as before where its board, its places and its ports are those that they were
  pub still_at : (site : Site W) (old new : CrewModel W) → IsAt site old → new.at ≡ old.at → new.places ≡ old.places → new.runner.ports ≡ old.runner.ports → IsAt site new
  still_at site old new here at places ports = record {
    board = at ∙ here.board;
    ports = ports ∙ here.ports;
    trays = subst (λ l. length l ≤ length site.trays.items) (sym places) here.trays;
    ready = subst (AreReady site.board site.trays.items site.board.ports) (sym places) here.ready;
  }

-- A crew that was dismissed may be disbanded.
use Rattle.std.proofs.Common.{◌≡◌, ℕ, List, map}
use Rattle.errands.specs.Models.{EndModel}
use Rattle.port_board.specs.Views.{Board}
use Rattle.crews.specs.declared.part.Part.{Part}
use Rattle.crews.specs.Attached.{AreOver}
use Rattle.crews.specs.Gathering.{HaveNoOutlets}
use Rattle.crews.specs.Sections.{ended}
use Rattle.crews.proofs.Joining.{attached_of, no_outlets, over_ended}
use Rattle.slot_runner.specs.Crews.{CrewModel, IsAt}
use Rattle.slot_runner.specs.declared.crew.Site.{Site}

module _ {W : Type 0} (site : Site W) (crew : CrewModel W) (at : IsAt site crew) (places : List (EndModel (Part W) Board × ℕ × ℕ)) (over : places ≡ map ended crew.places) where
  -- nothing is given at its trays any more
  pub over_at : AreOver site.trays.items places
  over_at = over_ended site.board site.trays.items crew.places places (attached_of site.board site.trays.items at.ready.share crew.places at.ready.each) over

  -- no wire is out with a helper
  pub none_out_at : HaveNoOutlets places
  none_out_at = no_outlets site.board site.trays.items at.ready.share crew.places places at.ready.each over

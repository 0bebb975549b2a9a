-- What contracts see of a crew.
use Rattle.std.specs.Prelude.{◌≡◌, ℕ, ◌≤◌, List, length}
use Rattle.atomic_table.specs.Seated.{TableId}
use Rattle.errands.specs.Models.{EndModel}
use Rattle.port_board.specs.Views.{Board}
use Rattle.crews.specs.declared.part.Part.{Part}
use Rattle.crews.specs.Sections.{AreReady}
use Rattle.slot_runner.specs.Models.{RunnerModel}
use Rattle.slot_runner.specs.declared.crew.Site.{Site}

-- a crew: the runner, the board of its ports, the places of its agents, and the wires of the ports
pub record CrewModel (W : Type 0) : Type 0 where
  pub runner : RunnerModel
  pub at : TableId
  pub places : List (EndModel (Part W) Board × ℕ × ℕ)
  pub wires : List W

-- the crew works at this site: its board is the one there, and each of its places has its tray there
pub record IsAt {W : Type 0} (site : Site W) (crew : CrewModel W) : Type 0 where
  pub board : crew.at ≡ site.board.id
  pub ports : crew.runner.ports ≡ site.board.ports
  pub trays : length crew.places ≤ length site.trays.items
  pub ready : AreReady site.board site.trays.items site.board.ports crew.places

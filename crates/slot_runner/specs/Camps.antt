-- A crew with the place where it works.
use Rattle.std.specs.Prelude.{◌≡◌, List, ◌++◌, length, map}
use Rattle.crews.specs.Sections.{helper_at}
use Rattle.slot_runner.specs.Models.{RunnerModel}
use Rattle.slot_runner.specs.Crews.{IsAt}
use Rattle.slot_runner.specs.declared.camp.Camp.{Camp}

-- the camp is ready for its first run: its crew is that of the runner and works at the site, each tray there has its
-- helper, and the wires are those of the crew and then those that no port has
pub record IsCamp {W : Type 0} (r : RunnerModel) (old : List W) (camp : Camp W) : Type 0 where
  pub runner : camp.crew.runner ≡ r
  pub at : IsAt camp.site camp.crew
  pub helpers : camp.helpers.items ≡ map (helper_at camp.site.board) camp.site.trays.items
  pub wires : camp.crew.wires ++ camp.far.items ≡ old
  pub ports : length camp.crew.wires ≡ r.ports
  pub many : length camp.crew.places ≡ length camp.site.trays.items

-- A crew as it is gathered.
use Rattle.std.specs.Prelude.{◌≡◌, ℕ, ◌-◌, ◌≤◌, List, [], ◌++◌, All, length, map, min, vec_capacity}
use Rattle.errands.specs.Models.{EndModel, TrayModel}
use Rattle.port_board.specs.Views.{Board}
use Rattle.crews.specs.declared.part.Part.{Part}
use Rattle.crews.specs.declared.serving.Station.{Station}
use Rattle.crews.specs.declared.gathering.Gathered.{Gathered}
use Rattle.crews.specs.Sections.{AreReady, EachReady, helper_at, place_of}
use Rattle.crews.specs.Wires.{AllThere, wires_of}

module _ {W : Type 0} where
  -- no station has an outlet
  abbrev pub HaveNoOutlets : List (EndModel (Part W) Board × ℕ × ℕ) → Type 0
  HaveNoOutlets ps = All (λ (p : EndModel (Part W) Board × ℕ × ℕ). p.1 ≡ 0) ps

  -- the crew has nobody, and no wire
  pub record IsNew (all : Gathered W) : Type 0 where
    pub trays : all.trays.items ≡ []
    pub helpers : all.helpers.items ≡ []
    pub stations : all.stations.items ≡ []
    pub wires : all.wires.items ≡ []
    pub far : all.far.items ≡ []

  -- the crew has room for so many agents, and for so many wires
  pub record HaveRoom (agents ports others : ℕ) (all : Gathered W) : Type 0 where
    pub trays : agents ≤ vec_capacity all.trays
    pub helpers : agents ≤ vec_capacity all.helpers
    pub stations : agents ≤ vec_capacity all.stations
    pub wires : ports ≤ vec_capacity all.wires
    pub far : others ≤ vec_capacity all.far

  -- each station has a tray with a helper at it, and room for a share of so many ports
  pub record AreMade (board : Board) (share : ℕ) (ts : List (TrayModel Board)) (hs : List (EndModel (Part W) Board))
      (ss : List (Station W)) : Type 0 where
    pub many : length ss ≡ length ts
    pub helpers : hs ≡ map (helper_at board) ts
    pub each : EachReady board ts share (map place_of ss)

  -- the crew of so many agents is ready for its first run: the ports have their wires, each agent but the caller has a
  -- tray with a helper at it, and a station, and the wires that no port has are kept
  pub record IsGathered (board : Board) (agents : ℕ) (old : List W) (all : Gathered W) : Type 0 where
    pub wires : wires_of all.wires.items ++ all.far.items ≡ old
    pub ports : length all.wires.items ≡ board.ports
    pub there : AllThere all.wires.items
    pub ready : AreReady board all.trays.items board.ports (map place_of all.stations.items)
    pub helpers : all.helpers.items ≡ map (helper_at board) all.trays.items
    pub many : length all.trays.items ≡ min agents board.ports - 1
    pub as_many : length all.stations.items ≡ length all.trays.items

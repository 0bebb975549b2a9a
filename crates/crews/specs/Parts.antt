-- What the agent of a part does.
use Rattle.std.specs.Prelude.{◌≡◌, ℕ, ◌<◌, List, ◌++◌, All, flat_map, map, Option, vec_capacity}
use Rattle.port_board.specs.declared.view.Report.{Report}
use Rattle.port_board.specs.declared.view.View.{View}
use Rattle.port_board.specs.Views.{Board}
use Rattle.port_agent.specs.Served.{Attends, IsTry, Look, taken}
use Rattle.port_agent.specs.Attended.{kept_of}
use Rattle.crews.specs.declared.part.Outlet.{Outlet}
use Rattle.crews.specs.declared.part.Part.{Part}

-- one try at a port: its wire before and after, what was drawn there, and where the agent looked
pub record Trial (W : Type 0) : Type 0 where
  pub port : ℕ
  pub before : W
  pub after : W
  pub took : Option Report
  pub looks : List Look

module _ {W : Type 0} where
  -- the seat is at this board, which has the ports
  abbrev pub Fits : Board → Part W → Type 0
  Fits board p = (p.agent.at ≡ board.id) × All (λ (o : Outlet W). o.port < board.ports) p.outlets.items

  abbrev pub outlet_before : Trial W → Outlet W
  outlet_before t = record { port = t.port; wire = t.before }

  abbrev pub outlet_after : Trial W → Outlet W
  outlet_after t = record { port = t.port; wire = t.after }

module _ {W : Type 0} (faults : W → ℕ) (runs : W → Option (List (ℕ × ℕ × ℕ))) where
  -- the port of a board with so many was tried once, and its wire was sent what was drawn
  abbrev pub IsTrial : ℕ → View → Trial W → Type 0
  IsTrial ports view t = Attends faults runs view t.port t.before t.after t.took × IsTry ports t.port t.took t.looks

  -- The seat tried once at each of these ports, in their order, and looked nowhere else: its reports and its looks are
  -- those that it had, and those of the tries one after the other.
  pub record AreTried (ports : ℕ) (v w : View) (trials : List (Trial W)) : Type 0 where
    pub out : w.out ≡ v.out
    pub shown : w.shown ≡ v.shown
    pub each : All (IsTrial ports w) trials
    pub done : w.done ≡ v.done ++ taken (map (λ (t : Trial W). t.took) trials)
    pub looks : w.looks ≡ v.looks ++ flat_map (λ (t : Trial W). t.looks) trials

  -- the agent of the part tried its ports
  pub record IsAttended (board : Board) (p q : Part W) : Type 0 where
    pub trials : List (Trial W)
    pub before : p.outlets.items ≡ map outlet_before trials
    pub after : q.outlets.items ≡ map outlet_after trials
    pub room : vec_capacity q.outlets ≡ vec_capacity p.outlets
    pub kept : kept_of q.agent ≡ kept_of p.agent
    pub tried : AreTried board.ports p.agent.view q.agent.view trials

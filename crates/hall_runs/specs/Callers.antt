-- Callers that are ready for so many commands.
use Rattle.std.specs.Prelude.{ℕ, ◌+◌, ◌≤◌, length}
use Rattle.std.specs.Prelude.{vec_capacity}
use Rattle.client_session.specs.Models.{HallModel, IsDriverOf, IsSessionOf}
use Rattle.hall_runs.specs.declared.callers.Client.{Client}
use Rattle.hall_runs.specs.declared.callers.Pilot.{Pilot}

-- the client's session is of the hall, and it has room for so many answers more
pub record IsClientOf (hall : HallModel) (commands : ℕ) (c : Client) : Type 0 where
  pub own : IsSessionOf hall c.session
  pub room : length c.said.items + commands ≤ vec_capacity c.said

-- the driver is of the hall, and there is room for so many answers more and for a place for each coflow
pub record IsPilotOf (hall : HallModel) (commands : ℕ) (p : Pilot) : Type 0 where
  pub own : IsDriverOf hall p.driver
  pub room : length p.said.items + commands ≤ vec_capacity p.said
  pub places : length hall.setting.opening.table.ids ≤ vec_capacity p.places

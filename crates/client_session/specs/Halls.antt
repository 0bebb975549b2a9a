-- What a new hall's driver is, and what a new session is.
use Rattle.std.specs.Prelude.{◌≡◌, ℕ, ◌+◌, []}
use Rattle.rank_board.specs.Models.{new_seat}
use Rattle.client_session.specs.Models.{DriverModel, HallModel, IsDriverOf, IsSessionOf, SessionModel}

-- the driver of a new hall has made no session and has seen nothing
pub record IsFirstDriver (hall : HallModel) (calls : ℕ) (driver : DriverModel) : Type 0 where
  pub hall_is : IsDriverOf hall driver
  pub rank : driver.rank ≡ new_seat hall.setting.board.table driver.rank.id 0
  pub made : driver.made ≡ 0
  pub left : driver.left ≡ calls
  pub journal : driver.journal ≡ []
  pub position : driver.position ≡ 0

-- a new session has the next number and has seen what the driver had seen; it has no entries, no noted pulls and no
-- looks
pub record IsNewSession (hall : HallModel) (driver : DriverModel) (calls : ℕ) (session : SessionModel) : Type 0 where
  pub hall_is : IsSessionOf hall session
  pub number : session.number ≡ driver.made + 1
  pub left : session.left ≡ calls
  pub position : session.position ≡ driver.position
  pub own : session.own ≡ []
  pub rank : session.rank ≡ new_seat hall.setting.board.table session.rank.id driver.rank.seen

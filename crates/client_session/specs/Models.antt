-- What contracts see of a hall, its driver and its sessions.
use Rattle.std.specs.Prelude.{◌≡◌, ℕ, ◌≤◌, List, Option, Some, All, length}
use Rattle.atomic_table.specs.Seated.{TableId}
use Rattle.journal.specs.declared.command.Entry.{Entry}
use Rattle.rank_board.specs.Models.{SeatModel}
use Rattle.client_session.specs.declared.desk.Setting.{Setting}
use Rattle.client_session.specs.Own.{OwnEntry}

-- a hall: which one it is, and what no call changes of it: the master's opening, and the board of ranks
pub record HallModel : Type 0 where
  pub gate : TableId
  pub setting : Setting

-- the driver: its hall, its seat at the board, how many sessions it has made, how many of its calls are left, the
-- journal as it was at the end of its last turn, and the length of the longest journal that it has seen
pub record DriverModel : Type 0 where
  pub gate : TableId
  pub setting : Option Setting
  pub rank : SeatModel
  pub made : ℕ
  pub left : ℕ
  pub journal : List Entry
  pub position : ℕ

-- a session: its hall, its number, how many of its calls are left, the length of the longest journal that it has seen,
-- its entries, and its seat at the board, with the newest version that it has seen, its noted pulls and its looks
pub record SessionModel : Type 0 where
  pub gate : TableId
  pub setting : Option Setting
  pub number : ℕ
  pub left : ℕ
  pub position : ℕ
  pub own : List OwnEntry
  pub rank : SeatModel

-- what a refused close keeps: the hall, its driver and its sessions
pub record ClosingModel : Type 0 where
  pub hall : HallModel
  pub driver : DriverModel
  pub sessions : List SessionModel

-- they are of this hall
abbrev pub IsDriverOf : HallModel → DriverModel → Type 0
IsDriverOf hall driver = (driver.gate ≡ hall.gate) × (driver.setting ≡ Some hall.setting) ×
    (driver.rank.table ≡ hall.setting.board.table)

abbrev pub IsSessionOf : HallModel → SessionModel → Type 0
IsSessionOf hall session = (session.gate ≡ hall.gate) × (session.setting ≡ Some hall.setting) ×
    (session.rank.table ≡ hall.setting.board.table)

-- what is closed is of one hall, and no session that the driver made is missing
pub record MayClose (c : ClosingModel) : Type 0 where
  pub driver : IsDriverOf c.hall c.driver
  pub sessions : All (IsSessionOf c.hall) c.sessions
  pub all : c.driver.made ≤ length c.sessions

-- What is left of a driver and of sessions that end.
use Rattle.std.specs.Prelude.{◌≡◌, ◌<◌, false, List, [], ◌∷◌, All, length, Some}
use Rattle.journal.specs.declared.command.Entry.{Entry}
use Rattle.rank_board.specs.declared.pulls.Pull.{Pull}
use Rattle.turnstile.specs.declared.view.Returned.{Returned}
use Rattle.turnstile.specs.Models.{RootModel, SeatModel as TurnSeatModel}
use Rattle.client_session.specs.declared.desk.Setting.{Setting}
use Rattle.client_session.specs.Drivers.{GrownByOthers}
use Rattle.client_session.specs.Models.{DriverModel, SessionModel}
use Rattle.client_session.specs.Own.{IsPass, own_entries}

-- what a session keeps of its noted pulls: they stand between its entries, and are of coflows of the table
pub record KeepsNotes (s : SessionModel) : Type 0 where
  pub pass : IsPass s.own s.rank.pulls s.rank.seen
  pub coflow : (c : Setting) → s.setting ≡ Some c → All (λ (p : Pull). p.coflow < c.board.coflows) s.rank.pulls

-- the seat at the turnstile is the session's, and has no turn
pub record IsSeatOf (s : SessionModel) (seat : TurnSeatModel Entry Setting) : Type 0 where
  pub table : seat.table ≡ s.gate
  pub setting : seat.setting ≡ s.setting
  pub free : seat.in_turn ≡ false
  pub number : seat.number ≡ s.number
  pub position : length seat.seen ≡ s.position
  pub own : own_entries s.number seat.seen ≡ s.own

-- the root is the driver's, has no turn, and no seat came back to it
pub record IsRootOf (d : DriverModel) (root : RootModel Entry Setting) : Type 0 where
  pub table : root.table ≡ d.gate
  pub setting : root.setting ≡ d.setting
  pub free : root.in_turn ≡ false
  pub none_back : root.back ≡ []
  pub made : root.made ≡ d.made
  pub position : length root.seen ≡ d.position
  pub grown : GrownByOthers d.journal root.seen

-- the session came back by its number, with what it had seen
pub record IsReturned (s : SessionModel) (p : Returned Entry) : Type 0 where
  pub number : p.number ≡ s.number
  pub position : length p.seen ≡ s.position
  pub own : own_entries s.number p.seen ≡ s.own
  pub notes : KeepsNotes s

-- the sessions came back in their order
abbrev pub AreReturned : List SessionModel → List (Returned Entry) → Type 0
AreReturned [] [] = Unit {0}
AreReturned (s ∷ ss) (p ∷ ps) = IsReturned s p × AreReturned ss ps
AreReturned ss ps = ⊥

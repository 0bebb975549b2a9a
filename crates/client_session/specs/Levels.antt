-- What the driver and sessions are after they told each other what they have seen.
use Rattle.std.specs.Prelude.{◌≡◌, ℕ, ◌≤◌, List, [], ◌∷◌, All}
use Rattle.rank_board.specs.Models.{SeatModel}
use Rattle.client_session.specs.Desk.{KeepsLooks}
use Rattle.client_session.specs.Models.{DriverModel, SessionModel}

-- the session has seen a journal at least as long and a version at least as new, and may have loaded further words;
-- all else of it is as before
pub record IsRaised (old new : SessionModel) : Type 0 where
  pub rest : new ≡ record old {
    position = new.position;
    rank = record old.rank { seen = new.rank.seen; looks = new.rank.looks };
  }
  pub looks : KeepsLooks old.rank new.rank
  pub position : old.position ≤ new.position
  pub version : old.rank.seen ≤ new.rank.seen

-- so is each session, in the order of the list
abbrev pub AreRaised : List SessionModel → List SessionModel → Type 0
AreRaised [] [] = Unit {0}
AreRaised (old ∷ olds) (new ∷ news) = IsRaised old new × AreRaised olds news
AreRaised olds news = ⊥

-- neither the driver nor a session has seen a journal that is longer
abbrev pub IsLongest : DriverModel → List SessionModel → ℕ → Type 0
IsLongest driver sessions position = (driver.position ≤ position) ×
    All (λ (s : SessionModel). s.position ≤ position) sessions

-- no session has seen a version that is newer
abbrev pub IsNewest : List SessionModel → ℕ → Type 0
IsNewest sessions version = All (λ (s : SessionModel). s.rank.seen ≤ version) sessions

-- The driver and the sessions have all seen the longest journal that any of them had seen, and each session a version
-- that is not below one that a session had seen. All else is as before.
pub record IsLevel (driver new_driver : DriverModel) (sessions new_sessions : List SessionModel) : Type 0 where
  pub driver_is : new_driver ≡ record driver { position = new_driver.position }
  pub raised : AreRaised sessions new_sessions
  pub longest : IsLongest driver sessions new_driver.position
  pub one : All (λ (s : SessionModel). s.position ≡ new_driver.position) new_sessions
  pub newest : All (λ (s : SessionModel). IsNewest sessions s.rank.seen) new_sessions

-- The driver and a session met, and with it the seat that hears the versions. Both have seen the longer of their
-- journals, and the session a version that is not below one that the seat has seen.
pub record IsMetByOne (driver new_driver : DriverModel) (heard new_heard : SeatModel)
    (session new_session : SessionModel) : Type 0 where
  pub driver_is : new_driver ≡ record driver { position = new_driver.position }
  pub board : new_heard.table ≡ heard.table
  pub raised : IsRaised session new_session
  pub longest : (driver.position ≤ new_driver.position) × (session.position ≤ new_driver.position)
  pub within : (top : ℕ) → driver.position ≤ top → session.position ≤ top → new_driver.position ≤ top
  pub one : new_session.position ≡ new_driver.position
  pub heard_it : (heard.seen ≤ new_heard.seen) × (session.rank.seen ≤ new_heard.seen)
  pub version : new_heard.seen ≤ new_session.rank.seen

-- The driver met each session in turn, and with it the seat that hears their versions. A session has then seen what
-- the driver had seen before, and the driver and the seat what all of them had seen, and no longer journal.
pub record IsMetByEach (driver new_driver : DriverModel) (heard new_heard : SeatModel)
    (sessions new_sessions : List SessionModel) : Type 0 where
  pub driver_is : new_driver ≡ record driver { position = new_driver.position }
  pub board : new_heard.table ≡ heard.table
  pub raised : AreRaised sessions new_sessions
  pub longest : IsLongest driver sessions new_driver.position
  pub within : (top : ℕ) → IsLongest driver sessions top → new_driver.position ≤ top
  pub positions : All (λ (s : SessionModel). (driver.position ≤ s.position) × (s.position ≤ new_driver.position))
      new_sessions
  pub heard_all : (heard.seen ≤ new_heard.seen) × IsNewest sessions new_heard.seen
  pub versions : All (λ (s : SessionModel). heard.seen ≤ s.rank.seen) new_sessions

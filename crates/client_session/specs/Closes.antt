-- What the master of a closed hall is.
use Rattle.std.specs.Prelude.{◌≡◌, ℕ, ◌+◌, ◌<◌, ◌≤◌, ◌⊎◌, List, [], ◌∷◌, ◌++◌, All, AllPairs, Contains, drop, length, take, Result, Err}
use Rattle.journal.specs.declared.command.Entry.{Entry}
use Rattle.journal.specs.declared.opening.Opening.{Opening}
use Rattle.journal.specs.Journal.{entry, rank_of, version_of}
use Rattle.journal.specs.Versions.{IsMade}
use Rattle.master_core.specs.Master.{MasterFacts}
use Rattle.rank_board.specs.declared.pulls.Pull.{Pull}
use Rattle.client_session.specs.declared.close.CloseFault.{CloseFault}
use Rattle.client_session.specs.declared.close.CloseFault.TheVariants.{Missing, NoMemory}
use Rattle.client_session.specs.Desk.{IsSeen}
use Rattle.client_session.specs.Drivers.{GrownByOthers}
use Rattle.client_session.specs.Models.{DriverModel, HallModel, SessionModel}
use Rattle.client_session.specs.Own.{own_entries, own_entry, OwnEntry}

-- the caller's entry stands in the journal at its position, and its version is the newest one after it
pub record StandsAt (journal : List Entry) (number : ℕ) (e : OwnEntry) : Type 0 where
  pub before : List Entry
  pub more : List Entry
  pub stands : journal ≡ before ++ entry number e.command e.reply ∷ more
  pub position : e.position ≡ length before + 1
  pub version : e.version ≡ version_of (before ++ entry number e.command e.reply ∷ [])

-- The noted pull has the coflow's rank in its version, which is 0 or one of the journal's. That version is not below
-- the newest one after each of the caller's entries that were there, as many as the mark, and the entry that made it
-- stands before each later one.
pub record IsTrueNote (o : Opening) (journal : List Entry) (own : List OwnEntry) (p : Pull) : Type 0 where
  pub version : p.version ≤ version_of journal
  pub rank : p.rank ≡ rank_of o journal p.version p.coflow
  pub mark : p.mark ≤ length own
  pub before : All (λ (e : OwnEntry). e.version ≤ p.version) (take p.mark own)
  pub after : 1 ≤ p.version → (made : IsMade journal p.version) ×
      All (λ (e : OwnEntry). length made.before + 1 < e.position) (drop p.mark own)

-- The session's entries are those of its number in the journal, each at its position, in the order of its calls. What it
-- noted is true, and it has seen no longer journal and no newer version.
pub record HasEnded (o : Opening) (journal : List Entry) (s : SessionModel) : Type 0 where
  pub own : s.own ≡ own_entries s.number journal
  pub stands : All (StandsAt journal s.number) s.own
  pub rising : AllPairs (λ (a b : OwnEntry). a.position < b.position) s.own
  pub notes : All (IsTrueNote o journal s.own) s.rank.pulls
  pub position : s.position ≤ length journal
  pub version : s.rank.seen ≤ version_of journal

-- the entry behind these is the driver's and stands in the journal that it has seen, or is one of a session of its
-- number, at its position
abbrev pub IsOfCaller : DriverModel → List SessionModel → List Entry → Entry → Type 0
IsOfCaller driver sessions before e =
    ((e.who ≡ 0) × (length before < length driver.journal))
    ⊎ ((s : SessionModel) × Contains sessions s × (s.number ≡ e.who)
    × Contains s.own (own_entry (length before + 1) (version_of (before ++ e ∷ [])) e.command e.reply))

-- The master of a closed hall. It has the opening that the hall began with. Its journal is legal, begins with the
-- journal that the driver has seen, and is at least as long as each journal that a caller has seen. Its entries are
-- exactly those of the driver and of the sessions, which are as many as the driver made, one of each number.
pub record IsClosed (hall : HallModel) (driver : DriverModel) (sessions : List SessionModel) (master : MasterFacts)
    : Type 0 where
  pub opening : master.opening ≡ hall.setting.opening
  pub seen : IsSeen master.opening master.journal
  pub begins : GrownByOthers driver.journal master.journal
  pub alone : driver.made ≡ 0 → master.journal ≡ driver.journal
  pub position : driver.position ≤ length master.journal
  pub given : length sessions ≡ driver.made
  pub ended : All (HasEnded master.opening master.journal) sessions
  pub numbers : (number : ℕ) → 0 < number → number ≤ driver.made →
      (s : SessionModel) × Contains sessions s × (s.number ≡ number)
  pub entries : (before more : List Entry) (e : Entry) → master.journal ≡ before ++ e ∷ more →
      IsOfCaller driver sessions before e

-- Why a hall stays open. Fewer sessions were given than were made, and all is handed back as it was; or there is no
-- memory, and all of it is kept for another try.
abbrev pub IsLeftOpen : HallModel → DriverModel → List SessionModel → CloseFault → Type 0
IsLeftOpen hall driver sessions (Missing made given the_hall the_driver the_sessions) =
    (given < made) × (made ≡ driver.made) × (given ≡ length sessions) × (the_hall ≡ hall) × (the_driver ≡ driver)
    × (the_sessions.items ≡ sessions)
IsLeftOpen hall driver sessions (NoMemory closing) =
    (driver.made ≤ length sessions)
    × (closing ≡ record { hall = hall; driver = driver; sessions = sessions })

-- the answer is that sessions are missing
abbrev pub IsMissing : Result MasterFacts CloseFault → Type 0
IsMissing (Err (Missing made given hall driver sessions)) = Unit {0}
IsMissing result = ⊥

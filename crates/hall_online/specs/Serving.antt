-- What holds of an online run between its actions, of its hall and of its wires.
use Rattle.std.specs.Prelude.{◌≡◌, ℕ, ◌≤◌, List, Option}
use Rattle.epochs.specs.declared.action.Action.{Action}
use Rattle.epochs.specs.declared.action.Action.TheVariants.{Run}
use Rattle.epochs.specs.Choice.{IsFirstAction}
use Rattle.epochs.specs.Course.{after, Course}
use Rattle.journal.specs.declared.command.Entry.{Entry}
use Rattle.journal.specs.declared.opening.Opening.{Opening}
use Rattle.journal.specs.Closed.{schedule_of, wire_of}
use Rattle.client_session.specs.Models.{HallModel}
use Rattle.slot_runner.specs.Models.{RunnerModel}
use Rattle.slot_runner.specs.Wires.{AreUnits, HaveMore}
use Rattle.online_runs.specs.Deeds.{course_of, Deed, DoesNext, IsOnlineRun, IsOnlineSoFar, IsServedOnline, journal_of}
use Rattle.online_runs.specs.Input.{IsOnlineInput, online_limit}
use Rattle.online_runs.specs.Value.{epochs_of}
use Rattle.online_runs.specs.declared.progress.Progress.{Progress}
use Rattle.online_runs.specs.Tells.{TellsRun}
use Rattle.hall_online.specs.Halls.{IsReady}

-- after some deeds: the driver is alone with their journal, and the course and what is kept are what it tells
pub record IsUnderWay (hall : HallModel) (runner : RunnerModel) (arrivals : List ℕ) (every : ℕ) (s : Course)
    (p : Progress) : Type 0 where
  pub deeds : List Deed
  pub input : IsOnlineInput hall.setting.opening arrivals every
  pub room : online_limit hall.setting.opening.table ≤ hall.setting.opening.limit
  pub ready : IsReady hall runner
  pub journal_is : runner.driver.journal ≡ journal_of deeds
  pub so_far : IsOnlineSoFar hall.setting.opening arrivals every deeds
  pub course_is : s ≡ course_of hall.setting.opening arrivals every deeds
  pub tells : TellsRun hall.setting.opening s runner.driver.journal p

-- the action is the first that applies
abbrev pub ComesFirst : Course → Progress → Action → Type 0
ComesFirst s p action = IsFirstAction s p.time p.owed.items action

-- an online run is under way, and this comes next
abbrev pub MayDo : HallModel → RunnerModel → Progress → Action → Type 0
MayDo hall runner p action =
    (arrivals : List ℕ) × (every : ℕ) × (s : Course) × IsUnderWay hall runner arrivals every s p × ComesFirst s p action

-- where an online run was under way and this came next, it is under way after it
abbrev pub IsDoneFrom : HallModel → RunnerModel → RunnerModel → Progress → Progress → Action → Type 0
IsDoneFrom hall old new p q action =
    (arrivals : List ℕ) (every : ℕ) (s : Course) → IsUnderWay hall old arrivals every s p → ComesFirst s p action →
    IsUnderWay hall new arrivals every (after s p.time action) q

-- nothing was sent from one journal to the other
abbrev pub SendsNothing : HallModel → RunnerModel → RunnerModel → Type 0
SendsNothing hall old new = (port : ℕ) → wire_of hall.setting.opening new.driver.journal port
    ≡ wire_of hall.setting.opening old.driver.journal port

-- an online run was served so far by whole runs, and this is its journal; what comes next is a run of at most so many
-- slots
abbrev pub IsOnlineBegun : Opening → List ℕ → ℕ → List Entry → ℕ → Type 0
IsOnlineBegun o arrivals every journal most =
    (deeds : List Deed) × IsOnlineSoFar o arrivals every deeds × (journal ≡ journal_of deeds)
    × DoesNext o arrivals every deeds (Run most)

module _ {W : Type 0} (runs : W → Option (List (ℕ × ℕ × ℕ))) where
  -- the wires have what they had, and then what the journal sent
  abbrev pub HaveSent : HallModel → RunnerModel → List W → List W → Type 0
  HaveSent hall runner before now =
      HaveMore runs (λ port sent. sent ≡ wire_of hall.setting.opening runner.driver.journal port)
      hall.setting.opening.table.ports before now

  -- what was sent since are units of what an online run has served so far, none twice
  pub record HaveServed (o : Opening) (arrivals : List ℕ) (every : ℕ) (before now : List W) : Type 0 where
    pub slots : List (List ℕ)
    pub served : IsServedOnline o arrivals every slots
    pub units : HaveMore runs (AreUnits o.table.flows slots) o.table.ports before now

-- the online run has come to its end, and what is kept of it is what its journal tells
pub record EndsAs (o : Opening) (arrivals : List ℕ) (every : ℕ) (p : Progress) : Type 0 where
  pub journal : List Entry
  pub run : IsOnlineRun o arrivals every journal
  pub epochs_are : p.epochs.items ≡ epochs_of o journal
  pub schedule_is : p.schedule ≡ schedule_of o journal

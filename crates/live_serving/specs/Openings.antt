-- What an opening of the driver comes to.
use Rattle.std.specs.Prelude.{◌≡◌, ℕ, ◌<◌, ◌≤◌, Bool, true, false, List, length, Result, Ok, Err, Option}
use Rattle.std.specs.List.{slice_index_or}
use Rattle.outside.specs.Rose.{Rose}
use Rattle.journal.specs.declared.command.Reply.TheVariants.{NothingLeft}
use Rattle.journal.specs.Driven.{Drive, IsSentWhole}
use Rattle.client_session.specs.Desk.{IsSeen}
use Rattle.client_session.specs.Drivers.{GrownByOthers, StaysInHall}
use Rattle.client_session.specs.Models.{DriverModel, HallModel}
use Rattle.slot_runner.specs.Models.{MayRun, RunnerModel}
use Rattle.slot_runner.specs.Settling.{CallsFall}
use Rattle.slot_runner.specs.Slots.{HasRun, IsAnswered}
use Rattle.live_serving.specs.Driven.{HasDriven}
use Rattle.slot_runner.specs.Wires.{NoneFell}
use Rattle.live_serving.specs.declared.stop.Stop.{Stop}
use Rattle.live_serving.specs.declared.stop.Stop.TheVariants.{Full, WireFault}
use Rattle.slot_runner.specs.Cuts.{AllSentWhole, IsCutAt}
use Rattle.live_serving.specs.Wires.{HaveSent}

-- the driver met a journal that has no room: it has seen as many entries as there may be, and added none
pub record HasMetFull (hall : HallModel) (old new : DriverModel) : Type 0 where
  pub limit : hall.setting.opening.limit ≤ new.position
  pub others : GrownByOthers old.journal new.journal
  pub made : new.made ≡ old.made

-- a run was opened and closed, and sent whole; or nothing is left; or there was no room
abbrev pub IsOpening : HallModel → ℕ → RunnerModel → RunnerModel → Result Bool Stop → Type 0
IsOpening hall most old new (Ok true) =
    (d : Drive) × HasRun hall.setting.opening most d old new × IsSentWhole hall.setting.opening old.driver.journal d
IsOpening hall most old new (Ok false) = IsAnswered hall.setting.opening most old new NothingLeft
IsOpening hall most old new (Err Full) = HasMetFull hall old.driver new.driver
IsOpening hall most old new (Err stop) = Unit {0}

-- The driver opened a run, sent it whole and closed it where one was asked for, or was answered that nothing is left; or
-- there was no room.
abbrev pub GoesOn : HallModel → ℕ → Bool → RunnerModel → RunnerModel → Result Bool Stop → Type 0
GoesOn hall most asked old new (Ok some) =
    CallsFall old.driver new.driver × StaysInHall old.driver new.driver × IsSeen hall.setting.opening new.driver.journal
    × ((round : ℕ) → HasDriven most round asked old.driver new.driver)
    × (AllSentWhole hall.setting.opening old.driver.journal → AllSentWhole hall.setting.opening new.driver.journal)
GoesOn hall most asked old new (Err Full) = HasMetFull hall old.driver new.driver
GoesOn hall most asked old new (Err stop) = Unit {0}

module _ {W : Type 0} (faults : W → ℕ) (runs : W → Option (List (ℕ × ℕ × ℕ))) where
  -- the wire of this port took fewer units than the last run has slots, and its count of faults rose
  pub record HasFailed (hall : HallModel) (new : RunnerModel) (before after : List W) (port : ℕ) : Type 0 where
    pub in_range : port < hall.setting.opening.table.ports
    pub rose : (b a : W) → Rose (faults (slice_index_or before port b)) (faults (slice_index_or after port a))
    pub cut : IsCutAt hall.setting.opening new.driver.journal port

  -- What it makes of the wires, as many as before: they have what the journal sent, no wire has fewer faults, and that
  -- of a port that is told has more. The runner may open a run again.
  pub record AreServed {S : Type 0} (hall : HallModel) (old new : RunnerModel) (before after : List W)
      (answer : Result S Stop) : Type 0 where
    pub may : MayRun hall new
    pub seen : IsSeen hall.setting.opening new.driver.journal
    pub as_many : length after ≡ length before
    pub sent : (start : List W) → HaveSent runs hall.setting.opening old.driver.journal start before →
        HaveSent runs hall.setting.opening new.driver.journal start after
    pub none_fell : NoneFell faults hall.setting.opening.table.ports before after
    pub fault : (port : ℕ) → answer ≡ Err (WireFault port) → HasFailed hall new before after port

-- An online run that is served by a crew: what stays of the crew from step to step, where it begins, and what it comes
-- to.
use Rattle.std.specs.Prelude.{◌≡◌, ℕ, ◌<◌, ◌≤◌, List, [], length, map, Option, Result, Err, OnOk, vec_capacity, ⊤}
use Rattle.std.specs.List.{slice_index_or}
use Rattle.outside.specs.Rose.{Rose}
use Rattle.flow_table.specs.Table.{TableFacts}
use Rattle.client_session.specs.Models.{HallModel}
use Rattle.crews.specs.Sections.{ended}
use Rattle.slot_runner.specs.declared.crew.Site.{Site}
use Rattle.slot_runner.specs.Crews.{CrewModel, IsAt}
use Rattle.slot_runner.specs.Cuts.{HaveStopped}
use Rattle.slot_runner.specs.Wires.{AreAllUnits, HaveMore}
use Rattle.online_runs.specs.Deeds.{PublishesTooMany}
use Rattle.hall_online.specs.declared.answer.OnlineFault.{OnlineFault}
use Rattle.hall_online.specs.declared.answer.OnlineFault.TheVariants.{TooMany, WireFault}
use Rattle.hall_online.specs.declared.beginning.Kept.{Kept}
use Rattle.hall_online.specs.Serving.{EndsAs, HaveServed, IsOnlineBegun, IsUnderWay}

-- all of the crew but its driver stays as it was
abbrev pub KeepsAllElse : {W : Type 0} → CrewModel W → CrewModel W → Type 0
KeepsAllElse old new = new ≡ record old { runner = record old.runner { driver = new.runner.driver } }

-- the crew stays at its board, with its agents and its ports
pub record StaysAt {W : Type 0} (old new : CrewModel W) : Type 0 where
  pub at : new.at ≡ old.at
  pub places : new.places ≡ old.places
  pub ports : new.runner.ports ≡ old.runner.ports

-- The crew may serve an online run of the table: nothing was asked yet, it works at this site, it has the wires of the
-- ports, and what is kept has room for the orders of the table.
pub record MayServe {W : Type 0} (hall : HallModel) (table : TableFacts) (site : Site W) (crew : CrewModel W)
    (kept : Kept) : Type 0 where
  pub under_way : (arrivals : List ℕ) × (every : ℕ) ×
      IsUnderWay hall crew.runner arrivals every kept.course kept.progress
  pub none : crew.runner.driver.journal ≡ []
  pub table_is : table ≡ hall.setting.opening.table
  pub places : length table.ids ≤ vec_capacity kept.orders.places
  pub coflows : kept.orders.loads.coflows ≡ length table.ids
  pub ports : kept.orders.loads.ports ≡ table.ports
  pub at : IsAt site crew
  pub wires : hall.setting.opening.table.ports ≤ length crew.wires

module _ {W : Type 0} (faults : W → ℕ) (runs : W → Option (List (ℕ × ℕ × ℕ))) where
  -- What the serving of an online run comes to, once the helpers have ended. After its end what is kept is what its
  -- journal tells, and all units of its schedule were sent. At every answer what was sent are units of the run. At a
  -- wire fault the count of that port's wire rose, and no further run was opened.
  pub record IsOnlineServed (hall : HallModel) (old new : CrewModel W) (before after : Kept)
      (result : Result ⊤ OnlineFault) : Type 0 where
    pub ends : OnOk result ((arrivals : List ℕ) (every : ℕ) →
        IsUnderWay hall old.runner arrivals every before.course before.progress →
        EndsAs hall.setting.opening arrivals every after.progress)
    pub sent : OnOk result (HaveMore runs (AreAllUnits hall.setting.opening.table.flows after.progress.schedule)
        hall.setting.opening.table.ports old.wires new.wires)
    pub served : (arrivals : List ℕ) (every : ℕ) →
        IsUnderWay hall old.runner arrivals every before.course before.progress →
        HaveServed runs hall.setting.opening arrivals every old.wires new.wires
    pub fault : (port : ℕ) → result ≡ Err (WireFault port) → (port < hall.setting.opening.table.ports) ×
        ((b a : W) → Rose (faults (slice_index_or old.wires port b)) (faults (slice_index_or new.wires port a)))
    pub stops : (port : ℕ) (arrivals : List ℕ) (every : ℕ) → result ≡ Err (WireFault port) →
        IsUnderWay hall old.runner arrivals every before.course before.progress →
        HaveStopped runs (IsOnlineBegun hall.setting.opening arrivals every) hall.setting.opening port old.wires
        new.wires
    pub too_many : (count : ℕ) (arrivals : List ℕ) (every : ℕ) → result ≡ Err (TooMany count) →
        IsUnderWay hall old.runner arrivals every before.course before.progress →
        PublishesTooMany hall.setting.opening arrivals every count
    pub over : new.places ≡ map ended old.places
    pub ports : new.runner.ports ≡ hall.setting.opening.table.ports

-- A hall in which a plan is served by a driver alone.
use Rattle.std.specs.Prelude.{◌≡◌, ℕ, ◌+◌, ◌^◌, ◌≤◌, List, length, Option}
use Rattle.journal.specs.declared.command.Entry.{Entry}
use Rattle.journal.specs.State.{IsOpening}
use Rattle.journal.specs.Closed.{schedule_of, wire_of}
use Rattle.client_session.specs.Desk.{IsSeen}
use Rattle.client_session.specs.Models.{DriverModel, HallModel, IsDriverOf}
use Rattle.slot_runner.specs.Models.{MayRun, RunnerModel}
use Rattle.hall_plan.specs.Journals.{HasRoom, plan_journal}
use Rattle.slot_runner.specs.Wires.{HaveMore, NoneFell}

-- the driver is alone in its hall, has seen this journal, and has calls for what a plan may still ask
pub record IsAlone (hall : HallModel) (driver : DriverModel) (journal : List Entry) : Type 0 where
  pub driver_of : IsDriverOf hall driver
  pub made : driver.made ≡ 0
  pub journal_is : driver.journal ≡ journal
  pub seen : IsSeen hall.setting.opening journal
  pub opening : IsOpening hall.setting.opening
  pub room : HasRoom hall.setting.opening
  pub calls : 2 ^ 40 ≤ driver.left + length journal

-- the runner may go on with a plan after these runs
pub record MayPlan (hall : HallModel) (runner : RunnerModel) (runs : List (ℕ × ℕ × ℕ)) : Type 0 where
  pub may : MayRun hall runner
  pub alone : IsAlone hall runner.driver (plan_journal hall.setting.opening runs)

module _ {W : Type 0} (faults : W → ℕ) (runs : W → Option (List (ℕ × ℕ × ℕ))) where
  -- What holds after some runs of a plan: the schedule is that of the journal, and the wires have what it sent.
  pub record IsServedBy (hall : HallModel) (runner : RunnerModel) (schedule : List (List ℕ)) (before after : List W)
      : Type 0 where
    pub made : List (ℕ × ℕ × ℕ)
    pub may : MayPlan hall runner made
    pub schedule_is : schedule ≡ schedule_of hall.setting.opening runner.driver.journal
    pub wires : HaveMore runs (λ port sent. sent ≡ wire_of hall.setting.opening runner.driver.journal port)
        hall.setting.opening.table.ports before after
    pub none_fell : NoneFell faults hall.setting.opening.table.ports before after

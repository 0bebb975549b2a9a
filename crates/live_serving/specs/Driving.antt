-- What the driver of a run of `live` keeps between its openings.
use Rattle.std.specs.Prelude.{◌≡◌, ℕ, ◌+◌, ◌^◌, List, length}
use Rattle.journal.specs.Driven.{driver_entries}
use Rattle.client_session.specs.Desk.{IsSeen}
use Rattle.client_session.specs.Models.{HallModel}
use Rattle.slot_runner.specs.Models.{MayRun, RunnerModel}
use Rattle.live_model.specs.Rounds.{Spell}
use Rattle.live_rounds.specs.Drivers.{AreOpenings}
use Rattle.slot_runner.specs.Cuts.{AllSentWhole}

-- The runner may open a run, and all runs so far were sent whole. Its driver has used up a call for each of its entries,
-- and these are openings of at most so many slots, each with its closing.
pub record MayDrive (hall : HallModel) (most : ℕ) (r : RunnerModel) : Type 0 where
  pub may : MayRun hall r
  pub seen : IsSeen hall.setting.opening r.driver.journal
  pub calls : r.driver.left + length (driver_entries r.driver.journal) ≡ 2 ^ 40
  pub spells : List Spell
  pub openings : AreOpenings most r.driver.journal spells
  pub whole : AllSentWhole hall.setting.opening r.driver.journal

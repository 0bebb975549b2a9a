-- What holds of a run of `live` between its rounds.
use Rattle.std.specs.Prelude.{◌≡◌, ℕ, ◌+◌, ◌<◌, ◌≤◌, ◌⊎◌, List, All, length, take}
use Rattle.workload.specs.declared.script.Script.{Script}
use Rattle.client_session.specs.Models.{DriverModel, HallModel, IsDriverOf, IsSessionOf, SessionModel}
use Rattle.slot_runner.specs.Models.{RunnerModel}
use Rattle.live_model.specs.Rounds.{Spell}
use Rattle.live_model.specs.Script.{limit_of, lines_of}
use Rattle.live_rounds.specs.Drivers.{AreOpenings}
use Rattle.live_rounds.specs.declared.answer.PullDone.{PullDone}
use Rattle.live_rounds.specs.Asking.{MetFull}
use Rattle.live_serving.specs.Ends.{HasRunOut, IsRunningOut, MayBeAsked}
use Rattle.live_serving.specs.Room.{found_none, IsShort}
use Rattle.live_serving.specs.Rounds.{AreRoundsDone}
use Rattle.live_serving.specs.Driving.{MayDrive}

-- the hall is one for the script: the journal's limit is the script's, and each line may be asked
pub record IsFor (hall : HallModel) (script : Script) : Type 0 where
  pub limit : hall.setting.opening.limit ≡ limit_of hall.setting.opening script
  pub asked : MayBeAsked hall.setting.opening script

-- there is a session for each client, all of the hall, and each was made by the driver
pub record AreSeated (hall : HallModel) (script : Script) (driver : DriverModel) (sessions : List SessionModel)
    : Type 0 where
  pub driver_of : IsDriverOf hall driver
  pub own : All (IsSessionOf hall) sessions
  pub each : length sessions ≡ script.clients
  pub made : driver.made ≡ script.clients

-- After so many rounds of the script, which are done, all may go on.
pub record IsGoing (hall : HallModel) (script : Script) (most n : ℕ) (runner : RunnerModel)
    (sessions : List SessionModel) (pulls : List PullDone) : Type 0 where
  pub hall_is : IsFor hall script
  pub seated : AreSeated hall script runner.driver sessions
  pub drives : MayDrive hall most runner
  pub done : AreRoundsDone most (length (lines_of script)) (take n script.rounds) runner.driver sessions pulls
  pub coflows : All (λ (p : PullDone). p.coflow < length hall.setting.opening.table.ids) pulls

-- All rounds are done, and all may go on while the work is ended.
pub record IsEnding (hall : HallModel) (script : Script) (most : ℕ) (runner : RunnerModel)
    (sessions : List SessionModel) (pulls : List PullDone) : Type 0 where
  pub hall_is : IsFor hall script
  pub seated : AreSeated hall script runner.driver sessions
  pub drives : MayDrive hall most runner
  pub running : IsRunningOut most (length (lines_of script)) script.rounds runner.driver sessions pulls
  pub coflows : All (λ (p : PullDone). p.coflow < length hall.setting.opening.table.ids) pulls

-- The work is ended.
pub record IsEnded (hall : HallModel) (script : Script) (most : ℕ) (driver : DriverModel)
    (sessions : List SessionModel) (pulls : List PullDone) : Type 0 where
  pub hall_is : IsFor hall script
  pub seated : AreSeated hall script driver sessions
  pub out : HasRunOut most (length (lines_of script)) script.rounds driver sessions pulls
  pub coflows : All (λ (p : PullDone). p.coflow < length hall.setting.opening.table.ids) pulls

-- Someone met a journal that has as many entries as there may be, although none has more entries than it may have.
pub record IsFilled (hall : HallModel) (script : Script) (most : ℕ) (driver : DriverModel)
    (sessions : List SessionModel) : Type 0 where
  pub hall_is : IsFor hall script
  pub seated : AreSeated hall script driver sessions
  pub few : All (IsShort script) sessions
  pub spells : List Spell
  pub openings : AreOpenings most driver.journal spells
  pub none : found_none spells ≤ length script.rounds + 1
  pub full : (hall.setting.opening.limit ≤ driver.position)
      ⊎ MetFull hall.setting.opening sessions

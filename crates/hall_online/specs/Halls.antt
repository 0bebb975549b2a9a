-- A hall in which an online run is served by a driver alone.
use Rattle.std.specs.Prelude.{◌≡◌, [], ◌∷◌, ◌++◌}
use Rattle.journal.specs.declared.command.Command.{Command}
use Rattle.journal.specs.declared.opening.Opening.{Opening}
use Rattle.journal.specs.Answer.{answer}
use Rattle.journal.specs.Fold.{state_of}
use Rattle.journal.specs.Journal.{entry}
use Rattle.client_session.specs.Models.{HallModel}
use Rattle.slot_runner.specs.Models.{MayRun, RunnerModel}
use Rattle.hall_plan.specs.Halls.{IsAlone}

-- the runner may open a run, and its driver is alone in the hall
pub record IsReady (hall : HallModel) (runner : RunnerModel) : Type 0 where
  pub alone : IsAlone hall runner.driver runner.driver.journal
  pub may : MayRun hall runner

-- the driver asked the command: its journal goes on by one entry, with the master's answer; and the runner has made no run
abbrev pub HasAsked : Opening → Command → RunnerModel → RunnerModel → Type 0
HasAsked o k old new =
    new.driver.journal ≡ old.driver.journal ++ entry 0 k (answer o (state_of o old.driver.journal) k) ∷ []

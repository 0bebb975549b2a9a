-- What the clients of a round came to.
use Rattle.std.specs.Prelude.{◌≡◌, ◌⊎◌, ℕ, Bool, List, All, length, Result, Ok, Err, IfOk}
use Rattle.std.specs.declared.vec.Vec.{Vec}
use Rattle.std.specs.declared.alloc.Global.{Global}
use Rattle.workload.specs.declared.script.ScriptLine.{ScriptLine}
use Rattle.client_session.specs.Models.{HallModel, IsSessionOf, SessionModel}
use Rattle.live_rounds.specs.declared.answer.PullDone.{PullDone}
use Rattle.live_rounds.specs.declared.answer.RoundStop.{RoundStop}
use Rattle.live_rounds.specs.declared.answer.RoundStop.TheVariants as round
use Rattle.live_rounds.specs.Rounds.{IsRoundDone, IsRoundStopped}
use Rattle.live_serving.specs.declared.stop.Stop.{Stop}
use Rattle.live_serving.specs.declared.stop.Stop.TheVariants.{Full, NoMemory}

-- the clients carried out these lines, or were stopped
pub record HasPlayed (hall : HallModel) (lines : List ScriptLine) (olds news : List SessionModel)
    (answer : Result (Vec PullDone Global) RoundStop) : Type 0 where
  pub own : All (IsSessionOf hall) news
  pub as_many : length news ≡ length olds
  pub done : IfOk answer (λ pulls. IsRoundDone hall.setting.opening lines olds news pulls.items)
  pub stopped : (stop : RoundStop) → answer ≡ Err stop →
      IsRoundStopped hall.setting.opening lines olds news stop

-- what the clients of a round were told, or why they stopped
abbrev pub Told : Type 0
Told = Result (Vec PullDone Global) RoundStop

-- a round stopped for this
abbrev pub IsStopFor : Stop → Told → Type 0
IsStopFor Full told = (entries : ℕ) × (told ≡ Err (round.Full entries))
IsStopFor NoMemory told = told ≡ Err round.NoMemory
IsStopFor stop told = ⊥

-- the clients carried out all lines, and the driver was not stopped; or the driver was stopped, or else the clients were
abbrev pub Settles : Told × Result Bool Stop → Result (Vec PullDone Global) Stop → Type 0
Settles came (Ok pulls) = (came.0 ≡ Ok pulls) × (some : Bool) × (came.1 ≡ Ok some)
Settles came (Err stop) = (came.1 ≡ Err stop) ⊎ ((some : Bool) × (came.1 ≡ Ok some) × IsStopFor stop came.0)

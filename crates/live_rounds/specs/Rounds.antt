-- What a round makes of the sessions of its clients.
use Rattle.std.specs.Prelude.{◌≡◌, ℕ, ◌+◌, ◌≤◌, List, [], ◌∷◌, flat_map, map, Option, Some, None}
use Rattle.journal.specs.declared.opening.Opening.{Opening}
use Rattle.journal.specs.Answer.{IsInRange}
use Rattle.workload.specs.declared.script.ScriptLine.{ScriptLine}
use Rattle.client_session.specs.Models.{SessionModel}
use Rattle.live_model.specs.Script.{command_of}
use Rattle.live_rounds.specs.declared.answer.PullDone.{PullDone}
use Rattle.live_rounds.specs.declared.answer.RoundStop.{RoundStop}
use Rattle.live_rounds.specs.declared.answer.RoundStop.TheVariants.{NoMemory}
use Rattle.live_rounds.specs.declared.answer.TurnStop.{TurnStop}
use Rattle.live_rounds.specs.Acts.{Act, HasActed, pulls_in}
use Rattle.live_rounds.specs.Parts.{lines_for}
use Rattle.live_rounds.specs.Stops.{Ends, first_stop, stop_for}

-- the line is of one of so many clients, and its command is in range
abbrev pub MayAsk : Opening → ℕ → ScriptLine → Type 0
MayAsk o clients l = (1 ≤ l.client) × (l.client ≤ clients) × IsInRange o (command_of l.asked)

-- what one client did in a round: the lines that it carried out, and why it stopped, where it did
pub record Played : Type 0 where
  pub acts : List Act
  pub stop : Option TurnStop

-- so its lines made of its session
pub record IsPlayed (o : Opening) (lines : List ScriptLine) (old new : SessionModel) (p : Played) : Type 0 where
  pub acted : HasActed old new p.acts
  pub ends : Ends o lines old new p.acts p.stop

-- so it is with the sessions of clients whose numbers count from this one
abbrev pub ArePlayed :
    Opening → List ScriptLine → ℕ → List SessionModel → List SessionModel → List Played → Type 0
ArePlayed o lines client [] [] [] = Unit {0}
ArePlayed o lines client (s ∷ olds) (t ∷ news) (p ∷ played) =
    IsPlayed o (lines_for client lines) s t p × ArePlayed o lines (client + 1) olds news played
ArePlayed o lines client olds news played = ⊥

-- All clients carried out all of their lines, and these are the pulls, by client and then by line.
pub record IsRoundDone (o : Opening) (lines : List ScriptLine) (olds news : List SessionModel) (pulls : List PullDone)
    : Type 0 where
  pub played : List Played
  pub each : ArePlayed o lines 1 olds news played
  pub none_stopped : first_stop (map (λ p. p.stop) played) ≡ None
  pub pulls_are : pulls ≡ flat_map (λ p. pulls_in p.acts) played

-- Clients carried out lines until they stopped, and this is why the first one did of those who stopped.
pub record IsCutShort (o : Opening) (lines : List ScriptLine) (olds news : List SessionModel) (stop : RoundStop)
    : Type 0 where
  pub played : List Played
  pub each : ArePlayed o lines 1 olds news played
  pub by : TurnStop
  pub first : first_stop (map (λ p. p.stop) played) ≡ Some by
  pub stop_is : stop ≡ stop_for by

-- for want of memory no command was carried out; else the round was cut short
abbrev pub IsRoundStopped :
    Opening → List ScriptLine → List SessionModel → List SessionModel → RoundStop → Type 0
IsRoundStopped o lines olds news NoMemory = news ≡ olds
IsRoundStopped o lines olds news stop = IsCutShort o lines olds news stop

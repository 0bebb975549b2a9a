-- Why a client stops.
use Rattle.std.specs.Prelude.{◌≡◌, ℕ, ◌+◌, ◌<◌, ◌≤◌, List, [], ◌∷◌, length, map, take, Option, Some, None}
use Rattle.journal.specs.declared.opening.Opening.{Opening}
use Rattle.workload.specs.declared.script.ScriptLine.{ScriptLine}
use Rattle.client_session.specs.Models.{SessionModel}
use Rattle.live_rounds.specs.declared.answer.RoundStop.{RoundStop}
use Rattle.live_rounds.specs.declared.answer.RoundStop.TheVariants as round
use Rattle.live_rounds.specs.declared.answer.TurnStop.{TurnStop}
use Rattle.live_rounds.specs.declared.answer.TurnStop.TheVariants.{Full, Spent}
use Rattle.live_rounds.specs.Acts.{Act, entries_in}

-- the same as an answer of a round
abbrev pub stop_for : TurnStop → RoundStop
stop_for (Full entries) = round.Full entries
stop_for Spent = round.Spent

-- The turn calls that the session had left were used up by so many entries and by a turn that found no room: the journal
-- that it met has so many entries, no fewer than its limit, and the session has seen them. Or no call is left after
-- these entries.
abbrev pub IsStoppedAt : Opening → SessionModel → SessionModel → ℕ → TurnStop → Type 0
IsStoppedAt o old new many (Full entries) =
    (new.left + many + 1 ≡ old.left) × (o.limit ≤ entries) × (new.position ≡ entries)
IsStoppedAt o old new many Spent = (new.left ≡ 0) × (many ≡ old.left)

-- the lines were carried out from the first one on: all of them, where the client did not stop, and each turn call that
-- was used has its entry; else the lines before the one at which it stopped
abbrev pub Ends : Opening → List ScriptLine → SessionModel → SessionModel → List Act → Option TurnStop → Type 0
Ends o lines old new acts None =
    (map (λ a. a.line) acts ≡ lines) × (new.left + length (entries_in acts) ≡ old.left)
Ends o lines old new acts (Some stop) =
    (map (λ a. a.line) acts ≡ take (length acts) lines) × (length acts < length lines)
    × IsStoppedAt o old new (length (entries_in acts)) stop

-- why the first of those stopped who did so
abbrev pub first_stop : List (Option TurnStop) → Option TurnStop
first_stop [] = None
first_stop (Some stop ∷ stops) = Some stop
first_stop (None ∷ stops) = first_stop stops

-- The parts of a round, and what becomes of them.
use Rattle.std.specs.Prelude.{◌≡◌, ℕ, ◌+◌, ◌≤◌, ◌==◌, Bool, true, false, List, [], ◌∷◌, ◌++◌, All, flat_map, length, map, vec_capacity}
use Rattle.std.specs.Prelude.{option_to_list}
use Rattle.std.specs.Prelude.{Option, Some, None, Result, Ok, Err}
use Rattle.std.specs.List.{filter}
use Rattle.std.specs.declared.vec.Vec.{Vec}
use Rattle.std.specs.declared.alloc.Global.{Global}
use Rattle.journal.specs.declared.opening.Opening.{Opening}
use Rattle.journal.specs.Answer.{IsInRange}
use Rattle.workload.specs.declared.script.ScriptLine.{ScriptLine}
use Rattle.client_session.specs.Models.{SessionModel}
use Rattle.live_model.specs.Script.{command_of}
use Rattle.live_rounds.specs.declared.answer.PullDone.{PullDone}
use Rattle.live_rounds.specs.declared.answer.RoundStop.{RoundStop}
use Rattle.live_rounds.specs.declared.answer.TurnStop.{TurnStop}
use Rattle.live_rounds.specs.declared.part.Part.{Part}
use Rattle.live_rounds.specs.Acts.{Act, HasActed, pulls_in}
use Rattle.live_rounds.specs.Stops.{Ends, first_stop, stop_for}

-- the lines of one client
abbrev pub lines_for : ℕ → List ScriptLine → List ScriptLine
lines_for client lines = filter (λ l. l.client == client) lines

-- the part of a client before the round: its lines, and nothing told yet, with room for what its pulls will be told
pub record IsPart (lines : List ScriptLine) (client : ℕ) (p : Part) : Type 0 where
  pub lines_are : p.lines.items ≡ lines_for client lines
  pub none_told : p.pulls.items ≡ []
  pub room : length p.lines.items ≤ vec_capacity p.pulls
  pub going : p.stop ≡ None

-- the parts of clients whose numbers count from this one
abbrev pub AreParts : List ScriptLine → ℕ → List Part → Type 0
AreParts lines client [] = Unit {0}
AreParts lines client (p ∷ ps) = IsPart lines client p × AreParts lines (client + 1) ps

-- the part can be played: its commands are in range, nothing is told yet, and there is room
pub record IsReady (o : Opening) (p : Part) : Type 0 where
  pub range : All (λ (l : ScriptLine). IsInRange o (command_of l.asked)) p.lines.items
  pub none_told : p.pulls.items ≡ []
  pub room : length p.lines.items ≤ vec_capacity p.pulls
  pub going : p.stop ≡ None

-- what a part keeps of a line: what its pull was told, where it is one, or why the client stops
abbrev pub Keeps : Part → Part → Result (Option PullDone) TurnStop → Bool → Type 0
Keeps old new (Ok pull) going =
    (going ≡ true) × (new.lines ≡ old.lines) × (new.pulls.items ≡ old.pulls.items ++ option_to_list pull)
    × (vec_capacity new.pulls ≡ vec_capacity old.pulls) × (new.stop ≡ old.stop)
Keeps old new (Err stop) going =
    (going ≡ false) × (new.lines ≡ old.lines) × (new.pulls.items ≡ old.pulls.items) × (new.stop ≡ Some stop)

-- The client of the session carried out lines of its part, which tells its pulls and why it stopped.
pub record Plays (o : Opening) (old new : SessionModel) (before after : Part) : Type 0 where
  pub acts : List Act
  pub acted : HasActed old new acts
  pub pulls : after.pulls.items ≡ pulls_in acts
  pub ends : Ends o before.lines.items old new acts after.stop

-- R holds of each object of the one list, before and after, and the object of the other list at the same place, before
-- and after
abbrev pub Each : {A B : Type 0} → (A → A → B → B → Type 0) → List A → List A → List B → List B → Type 0
Each R [] [] [] [] = Unit {0}
Each R (x ∷ xs) (y ∷ ys) (z ∷ zs) (w ∷ ws) = R x y z w × Each R xs ys zs ws
Each R _ _ _ _ = ⊥

-- what the pulls of all parts were told, part by part
abbrev pub pulls_together : List Part → List PullDone
pulls_together parts = flat_map (λ p. p.pulls.items) parts

-- why each part stopped
abbrev pub stops_of : List Part → List (Option TurnStop)
stops_of parts = map (λ p. p.stop) parts

-- no part stopped, and these are the pulls of all; or why the first one stopped that did so
abbrev pub Collects : List Part → Result (Vec PullDone Global) RoundStop → Type 0
Collects parts (Ok pulls) = (first_stop (stops_of parts) ≡ None) × (pulls.items ≡ pulls_together parts)
Collects parts (Err stop) = (t : TurnStop) × (first_stop (stops_of parts) ≡ Some t) × (stop ≡ stop_for t)

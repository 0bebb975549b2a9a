-- What the clients of a script did in its first rounds.
use Rattle.std.specs.Prelude.{◌≡◌, ℕ, ◌+◌, ◌<◌, ◌==◌, if◌then◌else◌, List, [], ◌∷◌, All, length}
use Rattle.std.specs.List.{filter}
use Rattle.workload.specs.declared.script.Round.{Round}
use Rattle.workload.specs.declared.script.ScriptLine.{ScriptLine}
use Rattle.client_session.specs.Models.{SessionModel}
use Rattle.live_model.specs.Levels.{Levels}
use Rattle.live_model.specs.Script.{lines_from}
use Rattle.live_rounds.specs.declared.answer.PullDone.{PullDone}
use Rattle.live_rounds.specs.Acts.{Act, HasActed, pulls_in}
use Rattle.live_rounds.specs.Told.{acts_of, IsNew, LiesBetween, lines_of}

-- the lines of one client in these rounds, which are numbered from 0
abbrev pub lines_in : List Round → ℕ → List (ℕ × ScriptLine)
lines_in rounds client = filter (λ (x : ℕ × ScriptLine). x.1.client == client) (lines_from 0 rounds)

-- the session was made for the client of this number, has so many calls, and has seen nothing
pub record IsBegun (calls client : ℕ) (s : SessionModel) : Type 0 where
  pub new : IsNew s
  pub number : s.number ≡ client
  pub left : s.left ≡ calls
  pub position : s.position ≡ 0

-- so are the sessions of clients whose numbers count from this one
abbrev pub AreBegun : ℕ → ℕ → List SessionModel → Type 0
AreBegun calls client [] = Unit {0}
AreBegun calls client (s ∷ ss) = IsBegun calls client s × AreBegun calls (client + 1) ss

-- The client of this number carried out its lines of these rounds in a session that was new and had so many calls, each
-- line between the levels of its round.
pub record IsFollowed (levels : Levels) (rounds : List Round) (calls client : ℕ) (s : SessionModel)
    (told : List (ℕ × Act)) : Type 0 where
  pub first : SessionModel
  pub new : IsNew first
  pub acted : HasActed first s (acts_of told)
  pub number : s.number ≡ client
  pub calls_are : s.left + length s.own ≡ calls
  pub lines : lines_of told ≡ lines_in rounds client
  pub rounds_done : All (λ (x : ℕ × Act). x.0 < length rounds) told
  pub between : All (λ (x : ℕ × Act). LiesBetween levels x.0 x.1) told

-- so it is with the sessions of clients whose numbers count from this one
abbrev pub AreFollowed : Levels → List Round → ℕ → ℕ → List SessionModel → List (List (ℕ × Act)) → Type 0
AreFollowed levels rounds calls client [] [] = Unit {0}
AreFollowed levels rounds calls client (s ∷ ss) (t ∷ ts) =
    IsFollowed levels rounds calls client s t × AreFollowed levels rounds calls (client + 1) ss ts
AreFollowed levels rounds calls client ss ts = ⊥

-- what the client of a number carried out, where clients count from this one
abbrev pub told_from : ℕ → List (List (ℕ × Act)) → ℕ → List (ℕ × Act)
told_from client [] k = []
told_from client (t ∷ ts) k = if client == k then t else told_from (client + 1) ts k

-- of the pulls that rounds told, those of one client
abbrev pub pulls_for : ℕ → List PullDone → List PullDone
pulls_for client pulls = filter (λ (p : PullDone). p.client == client) pulls

-- for each client the pulls are those of its lines, in their order, as they were carried out
abbrev pub TellPulls : List (List (ℕ × Act)) → List PullDone → Type 0
TellPulls told pulls = (k : ℕ) → pulls_for k pulls ≡ pulls_in (acts_of (told_from 1 told k))

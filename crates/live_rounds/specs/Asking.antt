-- How much the clients of a round ask, and what those met that stopped.
use Rattle.std.specs.Prelude.{◌≡◌, ◌⊎◌, ℕ, ◌+◌, ◌<◌, ◌≤◌, List, [], ◌∷◌, Any, length}
use Rattle.journal.specs.declared.opening.Opening.{Opening}
use Rattle.workload.specs.declared.script.ScriptLine.{ScriptLine}
use Rattle.client_session.specs.Models.{SessionModel}
use Rattle.live_rounds.specs.Parts.{lines_for}

-- the session is of the same client, and has at most one entry more for each of these lines
pub record AddsFew (lines : List ScriptLine) (old new : SessionModel) : Type 0 where
  pub number : new.number ≡ old.number
  pub own : length new.own ≤ length old.own + length lines

-- so it is with the sessions of clients whose numbers count from this one
abbrev pub AddFew : List ScriptLine → ℕ → List SessionModel → List SessionModel → Type 0
AddFew lines client [] [] = Unit {0}
AddFew lines client (s ∷ olds) (t ∷ news) =
    AddsFew (lines_for client lines) s t × AddFew lines (client + 1) olds news
AddFew lines client olds news = ⊥

-- one of these sessions has fewer calls left than its client has lines, where the clients' numbers count from this one
abbrev pub LackCalls : List ScriptLine → ℕ → List SessionModel → Type 0
LackCalls lines client [] = ⊥
LackCalls lines client (s ∷ ss) = (s.left < length (lines_for client lines)) ⊎ LackCalls lines (client + 1) ss

-- one of these sessions has seen as many entries as the journal may have
abbrev pub MetFull : Opening → List SessionModel → Type 0
MetFull o sessions = Any (λ (s : SessionModel). o.limit ≤ s.position) sessions

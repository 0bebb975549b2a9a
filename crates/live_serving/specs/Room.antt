-- How many entries a run of `live` may have.
use Rattle.std.specs.Prelude.{ℕ, ◌+◌, ◌≤◌, List, [], ◌∷◌, length, Some, None}
use Rattle.workload.specs.declared.script.Script.{Script}
use Rattle.client_session.specs.Models.{SessionModel}
use Rattle.live_model.specs.Rounds.{Spell}
use Rattle.live_model.specs.Script.{lines_by}

-- how many openings have no closing, since nothing was left
abbrev pub found_none : List Spell → ℕ
found_none [] = 0
found_none (s ∷ ss) = elim s.closed as (λ x. ℕ) [ None ↦ 1 | Some x ↦ 0 ] + found_none ss

-- the session is of a client of the script, and has no more entries than the client has lines
pub record IsShort (script : Script) (s : SessionModel) : Type 0 where
  pub number : s.number ≤ script.clients
  pub own : length s.own ≤ length (lines_by script s.number)

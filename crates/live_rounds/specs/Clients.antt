-- The clients of a script, once the hall is closed.
use Rattle.std.specs.Prelude.{◌≡◌, ℕ, ◌<◌, ◌≤◌, List, [], All}
use Rattle.journal.specs.declared.command.Entry.{Entry}
use Rattle.journal.specs.declared.opening.Opening.{Opening}
use Rattle.workload.specs.declared.script.Script.{Script}
use Rattle.client_session.specs.Closes.{HasEnded}
use Rattle.client_session.specs.Models.{SessionModel}
use Rattle.client_session.specs.Own.{own_entries}
use Rattle.live_model.specs.Levels.{Levels}
use Rattle.live_model.specs.Script.{lines_by}
use Rattle.live_rounds.specs.Acts.{Act, HasActed}
use Rattle.live_rounds.specs.Told.{acts_of, IsNew, LiesBetween, lines_of}

-- The client of this number carried out its lines in a session that was new, each between the levels of its round.
pub record IsClient (o : Opening) (journal : List Entry) (script : Script) (levels : Levels) (client : ℕ)
    (told : List (ℕ × Act)) : Type 0 where
  pub first : SessionModel
  pub last : SessionModel
  pub new : IsNew first
  pub acted : HasActed first last (acts_of told)
  pub ended : HasEnded o journal last
  pub number : last.number ≡ client
  pub lines : lines_of told ≡ lines_by script client
  pub between : All (λ (x : ℕ × Act). LiesBetween levels x.0 x.1) told

-- nobody has this number: it has no line and no entry
pub record IsNobody (journal : List Entry) (script : Script) (client : ℕ) (told : List (ℕ × Act)) : Type 0 where
  pub none_told : told ≡ []
  pub no_line : lines_by script client ≡ []
  pub no_entry : 1 ≤ client → own_entries client journal ≡ []

-- so it is with the numbers up to the greatest one of a client, and nobody has 0 or a greater one
pub record AreClients (o : Opening) (journal : List Entry) (script : Script) (levels : Levels) (clients : ℕ)
    (told : ℕ → List (ℕ × Act)) : Type 0 where
  pub client : (k : ℕ) → 1 ≤ k → k ≤ clients → IsClient o journal script levels k (told k)
  pub nobody : IsNobody journal script 0 (told 0)
  pub no_further : (k : ℕ) → clients < k → IsNobody journal script k (told k)

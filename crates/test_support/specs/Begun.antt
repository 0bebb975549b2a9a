-- What a new session of a small hall has.
use Rattle.std.specs.Prelude.{◌≡◌, ℕ}
use Rattle.client_session.specs.Models.{SessionModel}

-- so many turns are left to it
abbrev pub HasTurns : ℕ → SessionModel → Type 0
HasTurns calls session = session.left ≡ calls

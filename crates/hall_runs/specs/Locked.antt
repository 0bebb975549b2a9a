-- What callers of a master behind a mutex have done.
use Rattle.std.specs.Prelude.{◌≡◌, ℕ, ◌+◌, ◌<◌, ◌≤◌, List, length}
use Rattle.std.specs.List.{slice_index_or}
use Rattle.hall_runs.specs.declared.locked.Caller.{Caller}

-- the caller has its number as before, and had at most so many commands more carried out
pub record HasAsked (commands : ℕ) (before after : Caller) : Type 0 where
  pub number : after.number ≡ before.number
  pub some : before.answered ≤ after.answered
  pub most : after.answered ≤ before.answered + commands

-- each of the callers has
abbrev pub HaveAsked : ℕ → List Caller → List Caller → Type 0
HaveAsked commands before after =
    (k : ℕ) (d : Caller) → k < length before → HasAsked commands (slice_index_or before k d) (slice_index_or after k d)

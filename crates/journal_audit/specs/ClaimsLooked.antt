-- What is known while the runs and the pulls of a printed journal are looked through.
use Rattle.std.specs.Prelude.{◌≡◌, ◌≢◌, ◌⊎◌, ℕ, ◌-◌, ◌<◌, ◌≤◌, min, List, Contains}
use Rattle.coflow_units.specs.declared.plan.Run.{Run}
use Rattle.live_text.specs.declared.value.PullLine.{PullLine}
use Rattle.journal_audit.specs.Pulls.{pull_at}

-- two runs that are not the same have so many slots in common: none where their flows differ, and else all those of the
-- shorter one
abbrev pub HaveInCommon : Run → Run → ℕ → Type 0
HaveInCommon a b n =
    ((a.flows ≢ b.flows) × (n ≡ 0)) ⊎ ((a.flows ≡ b.flows) × (a.length ≢ b.length) × (n ≡ min a.length b.length))

-- the pull at this index names a version up to the newest one and has the id of a coflow, and where the pull before it
-- is of the same client, that one names no greater version
pub record IsNextPull (ids : List ℕ) (newest : ℕ) (pulls : List PullLine) (index : ℕ) : Type 0 where
  pub made : (pull_at pulls index).version ≤ newest
  pub known : Contains ids (pull_at pulls index).id
  pub no_fall : 0 < index → (pull_at pulls (index - 1)).client ≡ (pull_at pulls index).client →
      (pull_at pulls (index - 1)).version ≤ (pull_at pulls index).version

-- What an online run is given: a master's opening, the times at which the coflows arrive, and the slots of an epoch.
use Rattle.std.specs.Prelude.{◌≡◌, ℕ, ◌+◌, ◌*◌, ◌^◌, ◌≤◌, List, All, length}
use Rattle.coflow_units.specs.declared.limits.TheConstants.{MAX_OPTION_SLOTS}
use Rattle.flow_table.specs.Table.{TableFacts}
use Rattle.journal.specs.declared.opening.Opening.{Opening}
use Rattle.journal.specs.State.{IsOpening}

-- up to how many entries the journal of an online run may grow: four for each coflow, two for each flow, and 32768
abbrev pub online_limit : TableFacts → ℕ
online_limit t = 4 * length t.ids + 2 * length t.flows + 32768

-- the opening of a master for an online run
abbrev pub online_opening : TableFacts → List ℕ → Opening
online_opening t weights = record { table = t; weights = weights; limit = online_limit t }

-- there is one arrival for each coflow, a time in slots of at most 2^32, and an epoch has from 1 to 2^40 slots
pub record IsOnlineInput (o : Opening) (arrivals : List ℕ) (every : ℕ) : Type 0 where
  pub opening : IsOpening o
  pub each_arrival : length arrivals ≡ length o.table.ids
  pub arrivals_fit : All (λ a. a ≤ 2 ^ 32) arrivals
  pub epoch_some : 1 ≤ every
  pub epoch_fits : every ≤ MAX_OPTION_SLOTS

-- Accounts of flows: the units that each has, and of these the ones that it owes.
use Rattle.std.specs.Prelude.{◌≡◌, ℕ, ◌≤◌, ◌-◌, List, length, slice_index}

-- for each flow, by number, its units and the units that it owes
pub record Accounts : Type 0 where
  pub units : List ℕ
  pub owed : List ℕ

-- the units of a flow that were sent: the ones that it does not owe
abbrev pub sent_of : Accounts → ℕ → ℕ
sent_of a flow = slice_index a.units flow - slice_index a.owed flow

-- each flow has its number in both lists, and owes no more than it has
pub record IsBalanced (units owed : List ℕ) : Type 0 where
  pub owed_len : length owed ≡ length units
  pub within : (flow : ℕ) → slice_index owed flow ≤ slice_index units flow

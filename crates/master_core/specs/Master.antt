-- What contracts see of a master, and what it keeps beside its journal.
use Rattle.std.specs.Prelude.{ℕ, ◌+◌, ◌≤◌, List}
use Rattle.journal.specs.declared.command.Entry.{Entry}
use Rattle.journal.specs.declared.opening.Opening.{Opening}
use Rattle.master_core.specs.declared.standing.Standing.{Standing}
use Rattle.journal.specs.Fold.{state_of}
use Rattle.journal.specs.Journal.{IsLegal}
use Rattle.journal.specs.Sound.{InRange}
use Rattle.master_core.specs.Standing.{IsFit, Tells}

-- what contracts see of a master
pub record MasterFacts : Type 0 where
  pub opening : Opening
  pub journal : List Entry

-- The journal is legal, its commands are in range, and there is room for the entries that it may get. What is kept
-- tells the state after it.
pub record IsMaster (o : Opening) (journal : List Entry) (capacity : ℕ) (x : Standing) : Type 0 where
  pub legal : IsLegal o journal
  pub in_range : InRange o journal
  pub has_room : o.limit + o.table.ports + 1 ≤ capacity
  pub fit : IsFit o x
  pub tells : Tells o (state_of o journal) x

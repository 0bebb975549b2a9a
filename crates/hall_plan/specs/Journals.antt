-- The journal of a plan: one caller registers all coflows, publishes once, and opens and closes runs.
use Rattle.std.specs.Prelude.{◌≡◌, ℕ, ◌+◌, ◌*◌, ◌≤◌, List, [], ◌∷◌, ◌++◌, flat_map, length, map}
use Rattle.std.specs.List.{range_with_len}
use Rattle.coflow_units.specs.declared.limits.TheConstants.{MAX_SLOT}
use Rattle.journal.specs.declared.command.Command.TheVariants.{Close, Open, Publish, Register}
use Rattle.journal.specs.declared.command.Entry.{Entry}
use Rattle.journal.specs.declared.command.Reply.TheVariants.{Closed, Joined, Opened, Version}
use Rattle.journal.specs.declared.opening.Opening.{Opening}
use Rattle.journal.specs.Chosen.{the_order}
use Rattle.journal.specs.Journal.{entry}
use Rattle.flow_table.specs.Table.{instance_of}

-- the first so many coflows join, in number order
abbrev pub joins : ℕ → List Entry
joins coflows = map (λ c. entry 0 (Register c) Joined) (range_with_len 0 coflows)

-- all coflows join, and an order is published
abbrev pub beginning : Opening → List Entry
beginning o = joins (length o.table.ids) ++ entry 0 Publish (Version 1) ∷ []

-- a run of as many slots as there may be is opened and closed; it is told as its opening tells it, by its first slot, its
-- slots and the number of its flows
abbrev pub run_entries : ℕ × ℕ × ℕ → List Entry
run_entries r = entry 0 (Open MAX_SLOT) (Opened r.0 r.1 r.2) ∷ entry 0 Close (Closed r.0) ∷ []

-- the journal of a plan after these runs
abbrev pub plan_journal : Opening → List (ℕ × ℕ × ℕ) → List Entry
plan_journal o runs = beginning o ++ flat_map run_entries runs

-- the order of the ordering certificate of the whole table
abbrev pub plan_order : Opening → List ℕ
plan_order o = the_order (instance_of o.table o.weights)

-- the journal may take all entries of a plan: one for each coflow, two for each flow, and two
abbrev pub HasRoom : Opening → Type 0
HasRoom o = length o.table.ids + 2 * length o.table.flows + 2 ≤ o.limit

-- a plan was served so far by whole runs, and this is its journal; the next run is as long as it may be
abbrev pub IsPlanBegun : Opening → List Entry → ℕ → Type 0
IsPlanBegun o journal most = ((made : List (ℕ × ℕ × ℕ)) × (journal ≡ plan_journal o made)) × (most ≡ MAX_SLOT)

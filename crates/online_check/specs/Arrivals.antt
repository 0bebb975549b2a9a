-- Arrivals as times in slots.
use Rattle.std.specs.Prelude.{ℕ, List, map}
use Rattle.std.specs.Int.{div_ceil}
use Rattle.flow_table.specs.Table.{TableFacts}

-- the time in slots of a coflow that arrives at these milliseconds, where a slot takes so many: the slots that it takes
-- until they are gone
abbrev pub arrival_slot : ℕ → ℕ → ℕ
arrival_slot slot_ms milliseconds = div_ceil milliseconds slot_ms

-- the times in slots of all coflows of a table, by number
abbrev pub arrivals_in : TableFacts → ℕ → List ℕ
arrivals_in t slot_ms = map (arrival_slot slot_ms) t.arrivals

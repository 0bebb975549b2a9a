-- When the coflows of a command's files arrive.
use Rattle.std.specs.Prelude.{ℕ, slice_index}
use Rattle.command_words.specs.Words.{Said}
use Rattle.flow_table.specs.Table.{TableFacts}
use Rattle.online_check.specs.Arrivals.{arrivals_in}

-- the times in slots at which the coflows arrive, where a slot takes as many milliseconds as is said
abbrev pub arrival_of : TableFacts → Said → ℕ → ℕ
arrival_of table said = slice_index (arrivals_in table said.slot_ms)

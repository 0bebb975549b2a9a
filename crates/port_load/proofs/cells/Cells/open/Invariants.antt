use Rattle.std.proofs.Common.{◌≡◌, ◌++◌}
use Rattle.std.specs.Prelude.{replicate, vec_capacity}
use Rattle.port_load.proofs.cells.Cells.open.Given as goal

abbrev pub invariant-loop-count : goal.invariant-loop-count
invariant-loop-count l = record {
  rows : l.self-inside.rows ≡ l.initial.self-inside.rows;
  columns : l.self-inside.columns ≡ l.initial.self-inside.columns;
  blocks : l.self-inside.blocks.items ≡ l.initial.self-inside.blocks.items;
  numbers : l.self-inside.numbers.items ≡ l.initial.self-inside.numbers.items ++ replicate l._count 0;
  room : vec_capacity l.self-inside.numbers ≡ vec_capacity l.initial.self-inside.numbers;
}

-- the rankers that were reached were asked, the rows so far are theirs, and the others are on the bench
use Rattle.std.proofs.Common.{◌≡◌, ◌+◌, ◌<◌, List, ◌++◌, drop, length, take}
use Rattle.std.specs.Prelude.{All, map}
use Rattle.flow_table.specs.Table.{instance_of}
use Rattle.rankers.specs.declared.row.Row.{Row}
use Rattle.rankers.specs.Rounds.{IsRowsFrom}
use Rattle.rankers.proofs.comparing.compare.Given as goal

abbrev pub invariant-rankers : goal.invariant-rankers
invariant-rankers g l = record {
  room : length l.order ≡ length l.table.ids;
  few : l.index + length l.bench.items < 4294967296;
  left : l.bench.items ≡ drop l.index l.fn.bench.items;
  reached : All (λ b. (goal.Ranker-dyn g (b.vtable, b.value)).answered b.value l.facts) (take l.index l.fn.bench.items);
  rows : (tail : List Row) →
      IsRowsFrom (instance_of l.table l.weights) l.facts (l.index + 1) (map (λ b. (goal.Ranker-dyn g (b.vtable, b.value)).meaning b.value) l.bench.items) tail →
      IsRowsFrom (instance_of l.table l.weights) l.facts 1 (map (λ b. (goal.Ranker-dyn g (b.vtable, b.value)).meaning b.value) l.fn.bench.items) (l.rows.items ++ tail);
}

abbrev pub decreases-rankers : goal.decreases-rankers
decreases-rankers g l = length l.bench.items

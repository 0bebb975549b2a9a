-- the rows so far are those of the rankers that were taken off the bench
use Rattle.std.proofs.Common.{◌≡◌, ◌++◌, List, length}
use Rattle.std.specs.Prelude.{map}
use Rattle.flow_table.specs.Table.{instance_of}
use Rattle.rankers.specs.declared.ending.Ended.{Ended}
use Rattle.rankers.specs.Ends.{AreSecondEnds}
use Rattle.rankers.proofs.ending.second_ends.Given as goal

abbrev pub invariant-loop-order : goal.invariant-loop-order
invariant-loop-order g l = record {
  room : length l.order ≡ length l.table.ids;
  rows : (tail : List Ended) →
      AreSecondEnds (instance_of l.table l.facts.weights) l.facts (map (λ b. (goal.Ranker-dyn g (b.vtable, b.value)).meaning b.value) l.bench.items) tail →
      AreSecondEnds (instance_of l.table l.facts.weights) l.facts (map (λ b. (goal.Ranker-dyn g (b.vtable, b.value)).meaning b.value) l.fn.bench.items) (l.rows.items ++ tail);
}

abbrev pub decreases-loop-order : goal.decreases-loop-order
decreases-loop-order g l = length l.bench.items

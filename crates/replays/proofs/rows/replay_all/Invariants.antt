-- the rows so far are those of the rankers that were reached, and the others are on the bench
use Rattle.std.proofs.Common.{◌≡◌, ◌+◌, ◌<◌, List, ◌++◌, drop, length, take}
use Rattle.std.specs.Prelude.{All, map}
use Rattle.report_text.specs.Compared.{IsName}
use Rattle.replays.specs.declared.rows.ReplayRow.{ReplayRow}
use Rattle.replays.specs.Replayed.{AreRowsFrom}
use Rattle.replays.proofs.rows.replay_all.Given as goal

abbrev pub invariant-rankers : goal.invariant-rankers
invariant-rankers g l = record {
  few : l.index + length l.bench.items < 4294967296;
  left : l.bench.items ≡ drop l.index l.fn.bench.items;
  rows : (tail : List ReplayRow) →
      AreRowsFrom (record { table = l.table; weights = l.weights; arrivals = l.arrivals; every = l.every }) (l.index + 1)
      (map (λ b. (goal.Ranker-dyn g (b.vtable, b.value)).meaning b.value) l.bench.items) tail →
      AreRowsFrom (record { table = l.table; weights = l.weights; arrivals = l.arrivals; every = l.every }) 1
      (map (λ b. (goal.Ranker-dyn g (b.vtable, b.value)).meaning b.value) l.fn.bench.items) (l.rows.items ++ tail);
  taken : AreRowsFrom (record { table = l.table; weights = l.weights; arrivals = l.arrivals; every = l.every }) 1
      (map (λ b. (goal.Ranker-dyn g (b.vtable, b.value)).meaning b.value) (take l.index l.fn.bench.items)) l.rows.items;
  names : All (λ (row : ReplayRow). IsName row.name) l.rows.items;
}

abbrev pub decreases-rankers : goal.decreases-rankers
decreases-rankers g l = length l.bench.items

-- the ids of the places so far
use Rattle.std.proofs.Common.{◌≡◌, ◌≤◌, length, map, take, vec_capacity}
use Rattle.std.specs.List.{slice_index_or}
use Rattle.master_core.specs.Published.{ranked}
use Rattle.live_runs.proofs.orders.ids_of.Given as goal

abbrev pub invariant-loop-place : goal.invariant-loop-place
invariant-loop-place l = record {
  ids : l.ids.items ≡ map (λ c. slice_index_or l.table.ids c 0) (take l.place-index (ranked l.places));
  many : length l.ids.items ≡ l.place-index;
  room : length l.places ≤ vec_capacity l.ids;
}

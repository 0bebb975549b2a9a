-- the places so far have the same coflows
use Rattle.std.proofs.Common.{◌≡◌, ◌<◌, ℕ, map, slice_index}
use Rattle.master_core.specs.Published.{ranked}
use Rattle.journal_audit.proofs.orders.parted_place.Given as goal

abbrev pub invariant-loop-index : goal.invariant-loop-index
invariant-loop-index l = (k : ℕ) → k < l.index → slice_index l.ids k ≡ slice_index (map (λ coflow. slice_index l.table.ids coflow) (ranked l.places)) k

-- the cost so far
use Rattle.std.proofs.Common.{◌≡◌, ◌*◌, slice_index, sum_by}
use Rattle.std.specs.List.{range_with_len}
use Rattle.schedule_model.proofs.ends.cost_of.Given as goal

abbrev pub invariant-loop-coflow : goal.invariant-loop-coflow
invariant-loop-coflow l = l.cost ≡ sum_by (λ c. slice_index l.weights c * slice_index l.ends c) (range_with_len 0 l.coflow)

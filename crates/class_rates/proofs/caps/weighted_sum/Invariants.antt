-- the sum over the coflows so far
use Rattle.std.proofs.Common.{◌≡◌, ◌*◌, get_or}
use Rattle.std.specs.Prelude.{sum_by}
use Rattle.std.specs.List.{range_with_len}
use Rattle.schedule_model.specs.Weights.{weight_of}
use Rattle.class_rates.proofs.caps.weighted_sum.Given as goal

abbrev pub invariant-loop-coflow : goal.invariant-loop-coflow
invariant-loop-coflow l = l.total ≡ sum_by (λ c. weight_of l.weights c * get_or l.caps c 0) (range_with_len 0 l.coflow)

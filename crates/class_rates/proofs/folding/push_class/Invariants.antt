-- the coflows of the class so far are appended
use Rattle.std.proofs.Common.{◌≡◌, ◌++◌, get_or}
use Rattle.std.specs.Prelude.{◌==◌}
use Rattle.std.specs.List.{filter, range_with_len}
use Rattle.class_rates.proofs.folding.push_class.Given as goal

abbrev pub invariant-loop-coflow : goal.invariant-loop-coflow
invariant-loop-coflow l = l.order.items ≡ l.fn.order.items ++ filter (λ c. get_or l.numbers c 0 == l.class) (range_with_len 0 l.coflow)

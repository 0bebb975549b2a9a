-- the sizes of the coflows so far are added
use Rattle.std.proofs.Common.{◌≡◌, get_or, take}
use Rattle.std.specs.Prelude.{sum_by}
use Rattle.class_rates.specs.Classes.{size_by}
use Rattle.class_rates.proofs.folding.size_of_all.Given as goal

abbrev pub invariant-loop-coflow : goal.invariant-loop-coflow
invariant-loop-coflow l = l.all ≡ sum_by (size_by l.by (λ c. get_or l.loads c 0)) (take l.coflow-index l.order)

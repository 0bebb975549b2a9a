use Rattle.std.proofs.Common.{rules}
use Rattle.std.proofs.lemmas.List.Sorted.{IsNonDecreasingBy-from_sort_by_key}
use Rattle.matching.proofs.AnewSteps.{flow_of}
use Rattle.matching.proofs.anew.sort_by_flow.Goals as goal

pub returns-clause-sorted : goal.returns-clause-sorted
returns-clause-sorted c = IsNonDecreasingBy-from_sort_by_key flow_of _ c.sort_unstable_by_key.ensures.sorted (λ a r q k. search rules)

use Rattle.std.proofs.Common.{rules}
use Rattle.std.proofs.lemmas.List.Sorted.{IsNonDecreasingBy-from_sort_by_key}
use Rattle.rankers.specs.ByKey.{key_then_coflow}
use Rattle.rankers.specs.Kinds.{ratio_in}
use Rattle.rankers.proofs.by_ratio.sort_by_ratio.Goals as goal

pub returns-clause-sorted : goal.returns-clause-sorted
returns-clause-sorted c = IsNonDecreasingBy-from_sort_by_key (λ n. key_then_coflow (ratio_in c.args.facts.now n) n) _ c.sort_unstable_by_key.ensures.sorted
    (λ a r q k. search rules)

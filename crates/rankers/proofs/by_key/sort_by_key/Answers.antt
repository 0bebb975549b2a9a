use Rattle.std.proofs.Common.{rules}
use Rattle.std.proofs.lemmas.List.Sorted.{IsNonDecreasingBy-from_sort_by_key}
use Rattle.rankers.specs.ByKey.{key_in, key_then_number}
use Rattle.rankers.proofs.by_key.sort_by_key.Goals as goal

pub returns-clause-sorted : goal.returns-clause-sorted
returns-clause-sorted c = IsNonDecreasingBy-from_sort_by_key (λ n. key_then_number (key_in c.args.keys.now n) n) _ c.sort_unstable_by_key.ensures.sorted
    (λ a r q k. search rules)

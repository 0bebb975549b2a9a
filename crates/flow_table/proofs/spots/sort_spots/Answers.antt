use Rattle.std.proofs.Common.{rules}
use Rattle.std.proofs.lemmas.List.Sorted.{IsNonDecreasingBy-from_sort_by_key, IsPermutation-trans, answers_always, ties_still_rise}
use Rattle.flow_table.specs.declared.spots.Spot.{Spot}
use Rattle.flow_table.proofs.SpotSteps.{by_location}
use Rattle.flow_table.proofs.spots.sort_spots.Goals as goal

pub returns-clause-sorted : goal.returns-clause-sorted
returns-clause-sorted c =
    by_location c.sort_by_key-2.new.self.items
    (IsNonDecreasingBy-from_sort_by_key (λ (s : Spot). s.location) c.sort_by_key-2.new.self.items c.in_ok-sort_by_key-2.ensures.sorted (λ a r q k. search rules))
    (ties_still_rise (λ (s : Spot). s.number) (λ (s : Spot). s.location) c.sort_by_key.new.self.items c.sort_by_key-2.new.self.items
    (c.in_ok-sort_by_key.ensures.sorted (λ (s : Spot). s.number) (answers_always _ _ _ (λ f a r g h. search rules)))
    (c.sort_by_key-2.ensures.stable (λ (s : Spot). s.location) (answers_always _ _ _ (λ f a r g h. search rules))))

pub returns-clause-moved : goal.returns-clause-moved
returns-clause-moved c = IsPermutation-trans c.args.spots.now.items c.sort_by_key.new.self.items c.sort_by_key-2.new.self.items c.sort_by_key.ensures.permutation
    c.sort_by_key-2.ensures.permutation

use Rattle.std.proofs.Common.{◌≡◌, ltb, arith, rules}
use Rattle.std.specs.List.{slice_index_or}
use Rattle.std.proofs.lemmas.List.Sorted.{IsPartitionPoint-from_clause, IsPartitionedBy-ltb}
use Rattle.std.proofs.lemmas.List.Sums.{sum_by_more}
use Rattle.flow_table.specs.declared.spots.Spot.{Spot}
use Rattle.flow_table.proofs.PairCounts.{count_front, pairs_fit, places_below}
use Rattle.flow_table.proofs.below.sum_by_rests.Goals as goal

abbrev none : Spot
none = record { location = 0; number = 0 }

found : (c : goal.After-partition_point) → places_below c.args.places.now (slice_index_or c.args.rests.now c.loop-rest.rest-index none) ≡ c.partition_point.result
found c =
    let rest = slice_index_or c.args.rests.now c.loop-rest.rest-index none in
    let parted = IsPartitionedBy-ltb (λ (p : Spot). p.number) c.args.places.now rest.number c.requires.places_ascend in
    let point = IsPartitionPoint-from_clause (λ (p : Spot). ltb p.number rest.number) c.args.places.now _ c.partition_point.ensures.partitioned parted (λ a r q k. search rules) in
    count_front (λ (p : Spot). ltb p.number rest.number) c.args.places.now c.partition_point.result c.partition_point.ensures.bound point.0 point.1

pub overflow_add-pairs : goal.overflow_add-pairs
overflow_add-pairs c = omega (arith, found c, pairs_fit c.args.places.now c.args.rests.now c.loop-rest.rest-index none (omega arith) c.requires.few_places c.requires.few_rests)

pub loop-rest-preserved : goal.loop-rest-preserved
loop-rest-preserved c = omega (arith, found c, sum_by_more (places_below c.args.places.now) c.args.rests.now c.loop-rest.rest-index none (omega arith))

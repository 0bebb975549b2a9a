use Rattle.std.proofs.Common.{◌≡◌, ◌-◌, ◌∙◌, leb, length, ap, arith, rules, take_all}
use Rattle.std.specs.Prelude.{sum_by}
use Rattle.std.specs.List.{slice_index_or}
use Rattle.std.proofs.lemmas.List.Sorted.{IsPartitionPoint-from_clause, IsPartitionedBy-leb}
use Rattle.std.proofs.lemmas.List.Sums.{sum_by_more}
use Rattle.flow_table.specs.declared.spots.Spot.{Spot}
use Rattle.flow_table.proofs.PairCounts.{above_is, counted_by_places, pairs_fit_too, rests_above}
use Rattle.flow_table.proofs.below.sum_by_places.Goals as goal

abbrev none : Spot
none = record { location = 0; number = 0 }

found : (c : goal.After-partition_point-upto) →
    rests_above c.args.rests.now (slice_index_or c.args.places.now c.loop-place.place-index none) ≡ length c.args.rests.now - c.partition_point-upto.result
found c =
    let place = slice_index_or c.args.places.now c.loop-place.place-index none in
    let parted = IsPartitionedBy-leb (λ (r : Spot). r.number) c.args.rests.now place.number c.requires.rests_ascend in
    let point = IsPartitionPoint-from_clause (λ (r : Spot). leb r.number place.number) c.args.rests.now _ c.partition_point-upto.ensures.partitioned parted
    (λ a r q k. search rules) in
    above_is c.args.rests.now place c.partition_point-upto.result c.partition_point-upto.ensures.bound point.0 point.1

pub overflow_add-pairs : goal.overflow_add-pairs
overflow_add-pairs c = omega (
  arith,
  found c,
  pairs_fit_too c.args.places.now c.args.rests.now c.loop-place.place-index none (omega arith) c.requires.few_places
      c.requires.few_rests,
)

pub loop-place-preserved : goal.loop-place-preserved
loop-place-preserved c = omega (arith, found c, sum_by_more (rests_above c.args.rests.now) c.args.places.now c.loop-place.place-index none (omega arith))

pub returns : goal.returns
returns c =
    c.loop-place.invariant ∙ ap (λ xs. sum_by (rests_above c.args.rests.now) xs) (take_all c.loop-place.place-index c.args.places.now (omega arith)) ∙
    counted_by_places c.args.places.now c.args.rests.now

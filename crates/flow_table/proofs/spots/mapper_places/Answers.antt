use Rattle.std.proofs.Common.{◌≡◌, ◌<◌, length, map, ap, subst, ◌∙◌, arith}
use Rattle.std.specs.List.{range_with_len}
use Rattle.std.specs.List.Sorted.{IsPermutation}
use Rattle.std.proofs.lemmas.List.FromFn.{length-range_with_len}
use Rattle.flow_table.specs.declared.spots.Spot.{Spot}
use Rattle.flow_table.specs.Sent.{places}
use Rattle.flow_table.proofs.MadeSpots.{made_count, made_within, place_of, places_more, places_within}
use Rattle.flow_table.proofs.SpotSteps.{sum_made}
use Rattle.flow_table.proofs.spots.mapper_places.Goals as goal

pub loop-place-preserved : goal.loop-place-preserved
loop-place-preserved c =
    c.in_ok-push.ensures.items ∙ places_more c.args.line.now.mappers c.as_slice-location-items.result.now c.loop-place.spots.items c.loop-place.place
    c.as_slice-location-items.ensures c.loop-place.invariant

moved : (c : goal.In_ok-sort_spots) → IsPermutation (map (place_of c.args.line.now.mappers) (places c.args.line.now)) c.sort_spots.new.spots.items
moved c =
    let all : c.loop-place.place ≡ length c.args.line.now.mappers = omega (arith, ap length c.as_slice-location-items.ensures) in
    subst (λ l. IsPermutation l c.sort_spots.new.spots.items) (c.loop-place.invariant ∙ ap (λ n. map (place_of c.args.line.now.mappers) (range_with_len 0 n)) all)
    c.in_ok-sort_spots.ensures.moved

pub returns-clause-count : goal.returns-clause-count
returns-clause-count c =
    made_count (place_of c.args.line.now.mappers) (places c.args.line.now) c.sort_spots.new.spots.items (moved c) ∙ length-range_with_len 0 (length c.args.line.now.mappers)

pub returns-clause-within : goal.returns-clause-within
returns-clause-within c = λ ports within.
    made_within (λ (s : Spot). s.location < ports) (place_of c.args.line.now.mappers) (places c.args.line.now) c.sort_spots.new.spots.items (moved c)
    (places_within c.args.line.now.mappers ports within)

pub returns-clause-sums : goal.returns-clause-sums
returns-clause-sums c = λ f location. sum_made f (place_of c.args.line.now.mappers) (places c.args.line.now) c.sort_spots.new.spots.items location (moved c)

use Rattle.std.proofs.Common.{◌≡◌, ◌<◌, length, map, take, take_all, ap, subst, ◌∙◌, arith}
use Rattle.std.specs.List.Sorted.{IsPermutation}
use Rattle.coflow_units.specs.declared.trace.Reducer.{Reducer}
use Rattle.flow_table.specs.declared.spots.Spot.{Spot}
use Rattle.flow_table.proofs.MadeSpots.{made_count, made_within, rest_of}
use Rattle.flow_table.proofs.SpotSteps.{sum_made}
use Rattle.flow_table.proofs.spots.reducer_rests.Goals as goal

abbrev make : goal.In_ok-sort_spots → Reducer → Spot
make c = rest_of c.args.unit.megabytes (length c.args.line.now.mappers)

moved : (c : goal.In_ok-sort_spots) → IsPermutation (map (make c) c.args.line.now.reducers) c.sort_spots.new.spots.items
moved c =
    let all : take c.loop-reducer.reducer-index c.args.line.now.reducers ≡ c.args.line.now.reducers =
    take_all c.loop-reducer.reducer-index c.args.line.now.reducers (omega (arith, ap length c.as_slice-reducer-items.ensures)) in
    subst (λ l. IsPermutation l c.sort_spots.new.spots.items) (c.loop-reducer.invariant ∙ ap (map (make c)) all) c.in_ok-sort_spots.ensures.moved

pub returns-clause-count : goal.returns-clause-count
returns-clause-count c = made_count (make c) c.args.line.now.reducers c.sort_spots.new.spots.items (moved c)

pub returns-clause-within : goal.returns-clause-within
returns-clause-within c = λ ports within. made_within (λ (s : Spot). s.location < ports) (make c) c.args.line.now.reducers c.sort_spots.new.spots.items (moved c) within

pub returns-clause-sums : goal.returns-clause-sums
returns-clause-sums c = λ f location. sum_made f (make c) c.args.line.now.reducers c.sort_spots.new.spots.items location (moved c)

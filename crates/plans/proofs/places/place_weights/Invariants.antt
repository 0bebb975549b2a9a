use Rattle.std.proofs.Common.{◌≡◌, take}
use Rattle.std.specs.Prelude.{map, slice_index}
use Rattle.coflow_units.specs.declared.plan.Place.{Place}
use Rattle.plans.proofs.places.place_weights.Given as goal

abbrev pub invariant-loop-place : goal.invariant-loop-place
invariant-loop-place l = l.list.items ≡ map (λ (x : Place). slice_index l.weights x.coflow) (take l.place-index l.places)

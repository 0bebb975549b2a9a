-- the places of the flows so far
use Rattle.std.proofs.Common.{◌≡◌, map, take}
use Rattle.coflow_units.specs.declared.fabric.Flow.{Flow}
use Rattle.coflow_units.specs.Grants.{place_in}
use Rattle.schedule_model.proofs.patience.places_of.Given as goal

abbrev pub invariant-loop-flow : goal.invariant-loop-flow
invariant-loop-flow l = record {
  place_is : l.place ≡ place_in l.order l.last;
  places_are : l.places.items ≡ map (λ (x : Flow). place_in l.order x.coflow) (take l.flow-index l.flows);
}

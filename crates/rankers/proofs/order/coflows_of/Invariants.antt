use Rattle.std.proofs.Common.{◌≡◌, take}
use Rattle.std.specs.Prelude.{map}
use Rattle.coflow_units.specs.declared.plan.Place.{Place}
use Rattle.rankers.proofs.order.coflows_of.Given as goal

abbrev pub invariant-loop-place : goal.invariant-loop-place
invariant-loop-place l = l.coflows.items ≡ map (λ (x : Place). x.coflow) (take l.place-index l.places)

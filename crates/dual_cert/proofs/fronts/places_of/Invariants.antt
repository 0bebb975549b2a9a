use Rattle.dual_cert.proofs.PlaceSteps.{PlacedSoFar}
use Rattle.dual_cert.proofs.fronts.places_of.Given as goal

abbrev pub invariant-loop-place : goal.invariant-loop-place
invariant-loop-place l = PlacedSoFar l.charges l.places l.place

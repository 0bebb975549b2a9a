use Rattle.release_bound.specs.ReleaseOrder.{quarters_of}
use Rattle.release_bound.proofs.ReleaseSteps.{PlacesSoFar}
use Rattle.release_bound.proofs.step.place_all.Given as goal

abbrev pub invariant-loop-number : goal.invariant-loop-number
invariant-loop-number l = PlacesSoFar (quarters_of l.by) l.fn.loads l.loads l.arrivals l.fn.residuals l.residuals l.fn.waiting l.waiting l.places l.number

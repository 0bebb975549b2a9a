use Rattle.coflow_units.specs.declared.fabric.Side.TheVariants.{Egress, Ingress}
use Rattle.bssi_order.specs.Bounds.{IsBounded}
use Rattle.bssi_order.proofs.StandSteps.{PlacesSoFar}
use Rattle.bssi_order.proofs.step.place_all.Given as goal

abbrev pub invariant-loop-number : goal.invariant-loop-number
invariant-loop-number l = record {
  so_far : PlacesSoFar l.fn.loads l.loads l.fn.residuals l.residuals l.fn.waiting l.waiting l.places l.number;
  ingress : IsBounded l.loads Ingress l.ingress;
  egress : IsBounded l.loads Egress l.egress;
}

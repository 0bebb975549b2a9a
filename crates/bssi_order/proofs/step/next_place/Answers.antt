use Rattle.coflow_units.specs.declared.fabric.Side.TheVariants.{Egress, Ingress}
use Rattle.bssi_order.proofs.BoundSteps.{bounded_less}
use Rattle.bssi_order.proofs.step.next_place.Goals as goal

pub returns-clause-ingress_bounded : goal.returns-clause-ingress_bounded
returns-clause-ingress_bounded c = bounded_less c.args.loads.now c.drop_coflow.new.self c.choose_at-place.result.coflow Ingress c.greatest_port-port.new.ingress
    c.drop_coflow.ensures.dropped c.greatest_port-port.ensures.ingress_bounded

pub returns-clause-egress_bounded : goal.returns-clause-egress_bounded
returns-clause-egress_bounded c = bounded_less c.args.loads.now c.drop_coflow.new.self c.choose_at-place.result.coflow Egress c.greatest_port-port.new.egress
    c.drop_coflow.ensures.dropped c.greatest_port-port.ensures.egress_bounded

use Rattle.coflow_units.specs.declared.fabric.Side.TheVariants.{Egress, Ingress}
use Rattle.bssi_order.proofs.BoundSteps.{no_bound}
use Rattle.bssi_order.proofs.step.choose.Goals as goal

pub greatest_port-port-requires-clause-ingress_bounded : goal.greatest_port-port-requires-clause-ingress_bounded
greatest_port-port-requires-clause-ingress_bounded c = no_bound c.args.loads.now Ingress c.requires.ready.totals_fit

pub greatest_port-port-requires-clause-egress_bounded : goal.greatest_port-port-requires-clause-egress_bounded
greatest_port-port-requires-clause-egress_bounded c = no_bound c.args.loads.now Egress c.requires.ready.totals_fit

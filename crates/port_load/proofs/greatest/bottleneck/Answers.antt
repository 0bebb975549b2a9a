use Rattle.std.proofs.Common.{subst, sym}
use Rattle.port_load.specs.Bottleneck.{IsBottleneck}
use Rattle.port_load.proofs.GreatestSteps.{both_sides}
use Rattle.port_load.proofs.greatest.bottleneck.Goals as goal

pub returns : goal.returns
returns c = subst (IsBottleneck c.args.loads.now c.args.coflow) (sym c.max.ensures)
    (both_sides c.args.loads.now c.args.coflow c.greatest_on-ingress.result c.greatest_on-egress.result c.greatest_on-ingress.ensures c.greatest_on-egress.ensures)

use Rattle.std.proofs.Common.{◌+◌, subst, sym}
use Rattle.port_load.specs.Bottleneck.{IsGreatestOn}
use Rattle.port_load.proofs.GreatestSteps.{next_port}
use Rattle.port_load.proofs.greatest.greatest_on.Goals as goal

pub loop-number-preserved : goal.loop-number-preserved
loop-number-preserved c = subst (IsGreatestOn c.args.loads.now c.args.coflow c.args.side (c.loop-number.number + 1)) (sym c.max-greatest.ensures)
    (next_port c.args.loads.now c.args.coflow c.args.side c.loop-number.number c.loop-number.greatest c.get.result c.get.ensures c.loop-number.invariant)

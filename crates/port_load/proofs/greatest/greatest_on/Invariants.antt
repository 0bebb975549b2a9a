-- the greatest load on the ports so far
use Rattle.port_load.specs.Bottleneck.{IsGreatestOn}
use Rattle.port_load.proofs.greatest.greatest_on.Given as goal

abbrev pub invariant-loop-number : goal.invariant-loop-number
invariant-loop-number l = IsGreatestOn l.loads l.coflow l.side l.number l.greatest

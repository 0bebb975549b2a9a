use Rattle.rankers.proofs.Greatest.{bottlenecks_within}
use Rattle.rankers.proofs.facts.measured.Goals as goal

pub returns-clause-small : goal.returns-clause-small
returns-clause-small c = bottlenecks_within c.in_ok-loads.loads c.in_ok-bottlenecks.bottlenecks.items 1099511627776 c.in_ok-bottlenecks.ensures.length
    c.in_ok-loads.ensures.totals_fit c.in_ok-bottlenecks.ensures.greatest

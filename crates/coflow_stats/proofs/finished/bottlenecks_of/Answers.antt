use Rattle.std.proofs.Common.{◌≡◌, ◌<◌, ◌∙◌, arith}
use Rattle.port_load.specs.LoadTable.{HasLoads}
use Rattle.std.proofs.Common.{subst}
use Rattle.coflow_stats.proofs.FinishedSteps.{greatest_is}
use Rattle.coflow_stats.proofs.finished.bottlenecks_of.Goals as goal

pub returns-clause-greatest : goal.returns-clause-greatest
returns-clause-greatest c k lt =
    let loads = c.in_ok-loads.loads in
    let has : HasLoads c.args.table.now.flows loads = subst (λ l. HasLoads l loads) c.flows.ensures.flows c.in_ok-loads.ensures.loads_are in
    let ports : loads.ports ≡ c.args.table.now.ports = c.in_ok-loads.ensures.ports_are ∙ c.ports.ensures.ports in
    let known : k < loads.coflows = omega (arith, lt, c.in_ok-loads.ensures.coflows_are, c.coflows.ensures.coflows) in
    greatest_is c.args.table.now loads k _ has ports known (c.in_ok-bottlenecks.ensures.greatest k known)

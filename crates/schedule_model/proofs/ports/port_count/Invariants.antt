-- the ports of the flows so far are below the count
use Rattle.std.proofs.Common.{◌<◌, take}
use Rattle.std.specs.Prelude.{All}
use Rattle.coflow_units.specs.declared.fabric.Flow.{Flow}
use Rattle.schedule_model.proofs.ports.port_count.Given as goal

abbrev pub invariant-loop-flow : goal.invariant-loop-flow
invariant-loop-flow l = record {
  ingress : All (λ (x : Flow). x.ingress < l.count) (take l.flow-index l.flows);
  egress : All (λ (x : Flow). x.egress < l.count) (take l.flow-index l.flows);
}

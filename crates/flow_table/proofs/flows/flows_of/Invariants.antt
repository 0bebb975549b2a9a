-- the flows of the coflows so far
use Rattle.std.proofs.Common.{◌^◌, ◌≤◌, length}
use Rattle.flow_table.specs.FlowsOf.{HaveUnitsBefore}
use Rattle.flow_table.specs.Sent.{sent}
use Rattle.flow_table.proofs.flows.flows_of.Given as goal

abbrev pub invariant-loop-coflow : goal.invariant-loop-coflow
invariant-loop-coflow l = record {
  few : length l.flows.items ≤ 2 ^ 20;
  so_far : HaveUnitsBefore (sent l.trace l.unit.megabytes) l.coflow 0 0 l.flows.items;
}

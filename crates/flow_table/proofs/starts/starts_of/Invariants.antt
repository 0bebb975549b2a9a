-- the starts of the coflows so far
use Rattle.flow_table.proofs.StartSteps.{StartsSoFar}
use Rattle.flow_table.proofs.starts.starts_of.Given as goal

abbrev pub invariant-loop-coflow : goal.invariant-loop-coflow
invariant-loop-coflow l = StartsSoFar l.flows l.coflow l.first l.starts.items

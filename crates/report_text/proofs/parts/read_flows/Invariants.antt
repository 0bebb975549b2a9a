use Rattle.std.proofs.Common.{length}
use Rattle.report_text.proofs.FlowText.{FlowsSoFar}
use Rattle.report_text.proofs.parts.read_flows.Given as goal

abbrev pub invariant-loop-rest : goal.invariant-loop-rest
invariant-loop-rest l = FlowsSoFar l.bytes l.rest l.flows.items

abbrev pub decreases-loop-rest : goal.decreases-loop-rest
decreases-loop-rest l = length l.rest

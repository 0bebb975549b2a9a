-- the width of the numbers so far
use Rattle.std.proofs.Common.{◌≡◌, ◌-◌, ◌^◌, take, min}
use Rattle.report_text.proofs.FlowsText.{width}
use Rattle.report_text.proofs.numbers.width_of_flows.Given as goal

abbrev pub invariant-loop-flow : goal.invariant-loop-flow
invariant-loop-flow l = l.width ≡ min (width (take l.flow-index l.flows)) (2 ^ 64 - 1)

use Rattle.report_text.proofs.FlowText.{rises_first, rises_is}
use Rattle.report_text.proofs.parts.rises.Goals as goal

pub returns-in-Some : goal.returns-in-Some
returns-in-Some c = rises_is c.args.flows.now c.args.flow c.in-Some.last.now c.in-Some.ensures.value

pub returns-in-None : goal.returns-in-None
returns-in-None c = rises_first c.args.flows.now c.args.flow c.in-None.ensures.value

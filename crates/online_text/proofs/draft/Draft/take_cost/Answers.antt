use Rattle.online_text.proofs.ListSteps.{cost_refused, cost_taken}
use Rattle.online_text.proofs.draft.Draft.take_cost.Goals as goal

pub returns-in_default : goal.returns-in_default
returns-in_default c = cost_refused c.args.self.now c.args.line.now c.requires.stage c.requires.no_done c.in_default.ensures

pub returns : goal.returns
returns c = cost_taken c.args.self.now c.in-Some.cost c.args.line.now c.requires.draft c.requires.stage c.in-Some.ensures.0 c.in-Some.ensures.1 c.requires.no_done

use Rattle.online_text.proofs.ListSteps.{total_refused, total_taken}
use Rattle.online_text.proofs.draft.Draft.take_total.Goals as goal

pub returns-in_default : goal.returns-in_default
returns-in_default c = total_refused c.args.self.now c.args.line.now c.requires.stage c.requires.no_release c.in_default.ensures

pub returns : goal.returns
returns c = total_taken c.args.self.now c.in-Some.total c.args.line.now c.requires.draft c.requires.stage c.in-Some.ensures.0 c.in-Some.ensures.1 c.requires.no_release

use Rattle.report_text.proofs.DraftText.{refuse_bound}
use Rattle.report_text.proofs.DraftSteps.{bound_taken}
use Rattle.report_text.proofs.draft.Draft.take_bound.Goals as goal

pub returns-in_default : goal.returns-in_default
returns-in_default c = refuse_bound c.args.self.now c.args.line.now c.requires.stage c.requires.no_place c.in_default.ensures

pub returns : goal.returns
returns c = bound_taken c.args.self.now c.in-Some.bound c.args.line.now c.requires.draft c.requires.stage c.in-Some.ensures.0 c.in-Some.ensures.1

use Rattle.report_text.proofs.DraftText.{refuse_slack}
use Rattle.report_text.proofs.DraftSteps.{slack_taken}
use Rattle.report_text.proofs.draft.Draft.take_slack.Goals as goal

pub returns-in_default : goal.returns-in_default
returns-in_default c = refuse_slack c.args.self.now c.args.line.now c.requires.stage c.in_default.ensures

pub returns : goal.returns
returns c = slack_taken c.args.self.now c.in-Some.slack c.args.line.now c.requires.draft c.requires.stage c.in-Some.ensures.0 c.in-Some.ensures.1

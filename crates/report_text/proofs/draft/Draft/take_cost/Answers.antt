use Rattle.report_text.proofs.DraftText.{refuse_cost}
use Rattle.report_text.proofs.draft.Draft.take_cost.Goals as goal

pub returns-in_default : goal.returns-in_default
returns-in_default c = refuse_cost c.args.self.now c.args.line.now c.requires.stage c.in_default.ensures

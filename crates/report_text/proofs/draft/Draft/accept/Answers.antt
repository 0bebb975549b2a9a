use Rattle.report_text.proofs.DraftText.{refuse_done}
use Rattle.report_text.proofs.draft.Draft.accept.Goals as goal

pub returns-in-Done : goal.returns-in-Done
returns-in-Done c = refuse_done c.args.self.now c.args.line.now c.in-Done.is

use Rattle.live_text.proofs.Refusals.{refuse_done}
use Rattle.live_text.proofs.draft.Draft.accept.Goals as goal

pub returns-in-Done : goal.returns-in-Done
returns-in-Done c = refuse_done c.args.self.now c.args.line.now c.requires c.in-Done.is

use Rattle.online_text.proofs.StageSteps.{ended_refused}
use Rattle.online_text.proofs.draft.Draft.accept.Goals as goal

pub returns-in-Ended : goal.returns-in-Ended
returns-in-Ended c = ended_refused c.args.self.now c.args.line.now c.in-Ended.is

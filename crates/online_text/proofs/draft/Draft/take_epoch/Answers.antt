use Rattle.online_text.proofs.EpochSteps.{epoch_refused, epoch_taken, over_answers, over_draft}
use Rattle.online_text.proofs.draft.Draft.take_epoch.Goals as goal

pub take_done-requires-clause-draft : goal.take_done-requires-clause-draft
take_done-requires-clause-draft c = over_draft c.args.self.now c.requires.draft c.requires.stage

pub returns-in_default : goal.returns-in_default
returns-in_default c = over_answers c.args.self.now c.take_done.new.self c.args.line.now c.take_done.result c.requires.draft c.requires.stage c.in_default.ensures
    c.take_done.ensures

pub returns-then-not-rises : goal.returns-then-not-rises
returns-then-not-rises c = epoch_refused c.args.self.now c.in-Some.time c.args.line.now c.requires.stage c.in-Some.ensures.0 c.in-Some.ensures.1
    (rw c.deref.ensures.value at c.if-not-rises.ensures)

pub returns : goal.returns
returns c = epoch_taken c.args.self.now c.in-Some.time c.args.line.now c.requires.draft c.requires.stage c.in-Some.ensures.0 c.in-Some.ensures.1
    (rw c.deref.ensures.value at c.if-not-rises.ensures)

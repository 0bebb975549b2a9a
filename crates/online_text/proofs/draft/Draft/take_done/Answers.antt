use Rattle.online_text.proofs.ListSteps.{done_taken}
use Rattle.online_text.proofs.draft.Draft.take_done.Goals as goal

pub returns : goal.returns
returns c = done_taken c.args.self.now c.push.new.self c.in-Some.done c.args.line.now c.requires.draft c.requires.stage c.in_ok-push.ensures.items c.in-Some.ensures.0
    c.in-Some.ensures.1

use Rattle.online_text.proofs.EpochSteps.{bound_refused, bound_taken}
use Rattle.online_text.proofs.draft.Draft.take_bound.Goals as goal

pub returns-in_default : goal.returns-in_default
returns-in_default c = bound_refused c.args.self.now c.args.line.now c.requires.stage c.requires.no_place c.in_default.ensures

pub returns : goal.returns
returns c = bound_taken c.args.self.now c.push.new.self c.replace-places.new.dest c.in-Some.bound c.args.line.now c.requires.draft c.requires.stage
    (rw c.replace-places.ensures.after c.new.ensures.items) (rw (c.from_vec.ensures, c.replace-places.ensures.value) at c.in_ok-push.ensures.items) c.in-Some.ensures.0
    c.in-Some.ensures.1 c.requires.no_place

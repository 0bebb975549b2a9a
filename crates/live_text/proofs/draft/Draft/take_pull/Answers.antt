use Rattle.std.proofs.Common.{◌≡◌, false, true, refl}
use Rattle.live_text.proofs.DraftSteps.{pull_taken}
use Rattle.live_text.proofs.Refusals.{refuse_early_pull, refuse_late_pull, refuse_pull}
use Rattle.live_text.proofs.draft.Draft.take_pull.Goals as goal

pub returns-then-not-no_runs_yet : goal.returns-then-not-no_runs_yet
returns-then-not-no_runs_yet c = refuse_late_pull c.args.self.now c.args.line.now c.requires.draft c.requires.stage c.requires.kind
    (λ r. let bad : false ≡ true = c.if-not-no_runs_yet.ensures.1 r in cc)

pub returns-in_default : goal.returns-in_default
returns-in_default c = refuse_pull c.args.self.now c.args.line.now c.requires.draft c.requires.stage c.requires.kind c.in_default.ensures

pub returns-then-not-comes_behind : goal.returns-then-not-comes_behind
returns-then-not-comes_behind c =
    refuse_early_pull c.args.self.now c.args.line.now c.in-Some.pull c.requires.draft c.requires.stage c.requires.kind c.in-Some.ensures.0 c.in-Some.ensures.1
    (rw c.deref.ensures.value at c.if-not-comes_behind.ensures)

pub returns : goal.returns
returns c = pull_taken c.args.self.now c.push.new.self c.in-Some.pull c.args.line.now c.requires.draft c.requires.stage (c.if-not-no_runs_yet.ensures.0 refl)
    c.in_ok-push.ensures.items c.in-Some.ensures.0 c.in-Some.ensures.1 (rw c.deref.ensures.value at c.if-not-comes_behind.ensures)

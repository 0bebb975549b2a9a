use Rattle.std.proofs.Common.{arith}
use Rattle.online_text.proofs.RunSteps.{long_refused, run_taken, same_refused}
use Rattle.online_text.proofs.draft.Draft.take_run.Goals as goal

pub returns-then-run-self : goal.returns-then-run-self
returns-then-run-self c =
    let run = rw c.in-Some.is at c.in_ok-run.ensures in
    long_refused c.args.self.now c.in-Some.run' c.args.line.now c.requires.draft.slots c.requires.stage run.0 run.1 (omega arith)

pub returns-then-ends_with : goal.returns-then-ends_with
returns-then-ends_with c =
    let run = rw c.in-Some.is at c.in_ok-run.ensures in
    same_refused c.args.self.now c.in-Some.run' c.args.line.now c.requires.stage run.0 run.1 (rw c.as_slice.ensures at c.if-ends_with.ensures)

pub returns : goal.returns
returns c =
    let run = rw c.in-Some.is at c.in_ok-run.ensures in
    run_taken c.args.self.now c.push.new.self c.in-Some.run' c.args.line.now c.requires.draft c.requires.stage
    (rw c.as_slice-2.ensures at c.in_ok-push.ensures.pushed) run.0 run.1 (omega arith) (rw c.as_slice.ensures at c.if-ends_with.ensures)

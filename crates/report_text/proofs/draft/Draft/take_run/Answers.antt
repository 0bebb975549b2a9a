use Rattle.std.proofs.Common.{arith}
use Rattle.coflow_units.specs.declared.plan.Run.{Run}
use Rattle.report_text.proofs.DraftText.{refuse_long, refuse_same}
use Rattle.report_text.proofs.DraftSteps.{run_taken}
use Rattle.report_text.proofs.draft.Draft.take_run.Goals as goal

pub returns-then-length-self : goal.returns-then-length-self
returns-then-length-self c =
    let run : Run = record { length = c.in-Some.length; flows = c.read_run.new.flows.items } in
    let is = rw c.in-Some.is at c.in_ok-length.ensures in
    refuse_long c.args.self.now run c.args.line.now c.requires.draft c.requires.stage is.0 is.1 (omega arith)

pub returns-then-ends_with : goal.returns-then-ends_with
returns-then-ends_with c =
    let run : Run = record { length = c.in-Some.length; flows = c.read_run.new.flows.items } in
    let is = rw c.in-Some.is at c.in_ok-length.ensures in
    refuse_same c.args.self.now run c.args.line.now c.requires.draft c.requires.stage is.0 is.1 (rw c.deref.ensures.value at c.if-ends_with.ensures)

pub returns : goal.returns
returns c =
    let run : Run = record { length = c.in-Some.length; flows = c.read_run.new.flows.items } in
    let is = rw c.in-Some.is at c.in_ok-length.ensures in
    run_taken c.args.self.now c.push.new.self run c.args.line.now c.requires.draft c.requires.stage (rw c.deref-2.ensures.value at c.in_ok-push.ensures.pushed) is.0 is.1
    (omega arith) (rw c.deref.ensures.value at c.if-ends_with.ensures)

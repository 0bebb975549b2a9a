use Rattle.std.proofs.Common.{arith}
use Rattle.online_text.specs.Draft.{Follows, IsDraft, Refuses}
use Rattle.report_text.proofs.PartText.{empty_is, not_empty}
use Rattle.report_text.proofs.WholeLines.{few_read}
use Rattle.online_text.proofs.ReadingSteps.{IsOnlineText, all_read, cut_short, ends_early, line_read, line_refused, nothing_read}
use Rattle.online_text.proofs.reading.read_online.Goals as goal

pub loop-rest-init : goal.loop-rest-init
loop-rest-init c = nothing_read c.args.bytes.now c.new-draft.result c.new-draft.ensures.draft c.new-draft.ensures.first

pub returns-in_default : goal.returns-in_default
returns-in_default c = record {
  report = cut_short c.args.bytes.now c.loop-rest.rest.now c.loop-rest.draft c.loop-rest.line_number c.loop-rest.invariant
      (not_empty c.loop-rest.rest.now c.loop-rest-test.ensures) c.in_default.ensures;
}

pub returns-then-not-branch : goal.returns-then-not-branch
returns-then-not-branch c =
    let refused : Refuses c.loop-rest.draft c.in-Some.line.now = rw c.if-not-branch.true at c.in_ok-accept.ensures in
    record {
      report = line_refused c.args.bytes.now c.loop-rest.rest.now c.in-Some.line.now c.in-Some.behind.now c.loop-rest.draft c.loop-rest.line_number c.loop-rest.invariant
          (not_empty c.loop-rest.rest.now c.loop-rest-test.ensures) c.in-Some.ensures.0 c.in-Some.ensures.1 refused;
    }

pub overflow_add-line_number : goal.overflow_add-line_number
overflow_add-line_number c =
    let r = c.loop-rest.invariant in
    omega (arith, few_read IsOnlineText c.args.bytes.now c.loop-rest.rest.now r.read c.loop-rest.line_number r.is_read)

pub loop-rest-preserved : goal.loop-rest-preserved
loop-rest-preserved c =
    let taken : IsDraft c.accept.new.self × Follows c.loop-rest.draft c.accept.new.self c.in-Some.line.now = rw c.if-not-branch.false at c.in_ok-accept.ensures in
    line_read c.args.bytes.now c.loop-rest.rest.now c.in-Some.behind.now c.in-Some.line.now c.loop-rest.draft c.accept.new.self c.loop-rest.line_number
    c.loop-rest.invariant taken.0 taken.1 c.in-Some.ensures.0 c.in-Some.ensures.1

pub returns-in-None : goal.returns-in-None
returns-in-None c = record {
  report = ends_early c.args.bytes.now c.loop-rest.rest.now c.loop-rest.draft c.loop-rest.line_number c.loop-rest.invariant
      (empty_is c.loop-rest.rest.now c.loop-rest-test.ensures) c.in-None.ensures;
}

pub returns-in-Some-into_online : goal.returns-in-Some-into_online
returns-in-Some-into_online c = record {
  report = all_read c.args.bytes.now c.loop-rest.rest.now c.loop-rest.draft c.loop-rest.line_number c.in-Some-into_online.online c.loop-rest.invariant
      (empty_is c.loop-rest.rest.now c.loop-rest-test.ensures) c.in-Some-into_online.ensures.0 c.in-Some-into_online.ensures.1;
}

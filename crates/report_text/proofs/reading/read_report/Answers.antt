use Rattle.std.proofs.Common.{◌≡◌, ◌∷◌, [], ◌++◌, arith}
use Rattle.report_text.specs.Draft.{IsDraft, Refuses, draft_lines, report_of}
use Rattle.report_text.proofs.LastLine.{lines_after}
use Rattle.report_text.proofs.PartText.{empty_is, not_empty}
use Rattle.report_text.proofs.ReadingSteps.{IsReportText, all_read, are_lines, bad_at, draft_begins, no_whole, refused}
use Rattle.report_text.proofs.WholeLines.{cut_at, early_at, few_read, none_yet, one_more, refused_at, shorter}
use Rattle.report_text.proofs.reading.read_report.Goals as goal

pub loop-rest-init : goal.loop-rest-init
loop-rest-init c =
    let d = c.new-draft.result in (
      c.new-draft.ensures.draft,
      none_yet IsReportText c.args.bytes.now (draft_lines d) (lines_after d.stage (report_of d)) c.new-draft.ensures.none (draft_begins d c.new-draft.ensures.draft),
    )

pub returns-in_default : goal.returns-in_default
returns-in_default c =
    let bytes = c.args.bytes.now in
    let rest = c.loop-rest.rest.now in
    let ls = draft_lines c.loop-rest.draft in
    let n = c.loop-rest.line_number in
    record {
      report = bad_at bytes n (cut_at IsReportText are_lines bytes rest ls n c.loop-rest.invariant.1 (not_empty rest c.loop-rest-test.ensures) c.in_default.ensures);
    }

pub returns-then-not-branch : goal.returns-then-not-branch
returns-then-not-branch c =
    let bytes = c.args.bytes.now in
    let rest = c.loop-rest.rest.now in
    let d = c.loop-rest.draft in
    let n = c.loop-rest.line_number in
    let line = c.in-Some.line.now in
    let refuses : Refuses d line = rw c.if-not-branch.true at c.in_ok-accept.ensures in
    record {
      report = bad_at bytes n (refused_at IsReportText are_lines bytes rest line c.in-Some.behind.now (draft_lines d) n c.loop-rest.invariant.1
          (not_empty rest c.loop-rest-test.ensures) c.in-Some.ensures.0 c.in-Some.ensures.1 (refused d line refuses));
    }

pub overflow_add-line_number : goal.overflow_add-line_number
overflow_add-line_number c =
    omega (arith, few_read IsReportText c.args.bytes.now c.loop-rest.rest.now (draft_lines c.loop-rest.draft) c.loop-rest.line_number c.loop-rest.invariant.1)

pub loop-rest-preserved : goal.loop-rest-preserved
loop-rest-preserved c =
    let bytes = c.args.bytes.now in
    let rest = c.loop-rest.rest.now in
    let behind = c.in-Some.behind.now in
    let line = c.in-Some.line.now in
    let old = c.loop-rest.draft in
    let new = c.accept.new.self in
    let taken : IsDraft new × (draft_lines new ≡ draft_lines old ++ (line ∷ [])) = rw c.if-not-branch.false at c.in_ok-accept.ensures in (
      taken.0,
      one_more IsReportText bytes rest behind line (draft_lines old) (draft_lines new) (lines_after new.stage (report_of new)) c.loop-rest.line_number c.loop-rest.invariant.1
          taken.1 (draft_begins new taken.0) c.in-Some.ensures.0 c.in-Some.ensures.1,
    )

pub returns : goal.returns
returns c =
    let bytes = c.args.bytes.now in
    let rest = c.loop-rest.rest.now in
    let d = c.loop-rest.draft in
    let n = c.loop-rest.line_number in
    record {
      report = bad_at bytes n (early_at IsReportText are_lines bytes rest (draft_lines d) n c.loop-rest.invariant.1 (empty_is rest c.loop-rest-test.ensures)
          (no_whole d c.in-None.ensures));
    }

pub loop-rest-smaller : goal.loop-rest-smaller
loop-rest-smaller c = shorter c.loop-rest.rest.now c.in-Some.behind.now c.in-Some.line.now c.in-Some.ensures.1

pub returns-in-Some-into_report : goal.returns-in-Some-into_report
returns-in-Some-into_report c =
    let rest = c.loop-rest.rest.now in
    record {
      report = all_read c.loop-rest.draft c.in-Some-into_report.report c.args.bytes.now rest c.loop-rest.line_number c.loop-rest.invariant.0 c.in-Some-into_report.ensures.0
          c.in-Some-into_report.ensures.1 c.loop-rest.invariant.1 (empty_is rest c.loop-rest-test.ensures);
    }

use Rattle.std.proofs.Common.{◌≡◌, ◌∷◌, [], ◌++◌, arith}
use Rattle.live_text.specs.Draft.{IsDraft, Refuses, draft_lines, live_of}
use Rattle.report_text.proofs.PartText.{empty_is, not_empty}
use Rattle.live_text.proofs.ReadingSteps.{IsLiveText, are_lines, lines_after, bad_at, draft_begins, no_whole, refused}
use Rattle.report_text.proofs.WholeLines.{cut_at, early_at, few_read, none_yet, one_more, refused_at}
use Rattle.live_text.proofs.reading.read_live.Goals as goal

pub loop-rest-init : goal.loop-rest-init
loop-rest-init c =
    let d = c.new-draft.result in (
      c.new-draft.ensures.draft,
      none_yet IsLiveText c.args.bytes.now (draft_lines d) (lines_after d.stage (live_of d)) c.new-draft.ensures.none (draft_begins d c.new-draft.ensures.draft),
    )

pub returns-in_default : goal.returns-in_default
returns-in_default c =
    let bytes = c.args.bytes.now in
    let rest = c.loop-rest.rest.now in
    let ls = draft_lines c.loop-rest.draft in
    let n = c.loop-rest.line_number in
    record {
      live = bad_at bytes n (cut_at IsLiveText are_lines bytes rest ls n c.loop-rest.invariant.1 (not_empty rest c.loop-rest-test.ensures) c.in_default.ensures);
    }

pub returns-then-not-taken : goal.returns-then-not-taken
returns-then-not-taken c =
    let bytes = c.args.bytes.now in
    let rest = c.loop-rest.rest.now in
    let d = c.loop-rest.draft in
    let n = c.loop-rest.line_number in
    let line = c.in-Some.line.now in
    let refuses : Refuses d line = rw (c.in-Ok.is, c.if-not-taken.true) at c.accept.ensures in
    record {
      live = bad_at bytes n (refused_at IsLiveText are_lines bytes rest line c.in-Some.behind.now (draft_lines d) n c.loop-rest.invariant.1
          (not_empty rest c.loop-rest-test.ensures) c.in-Some.ensures.0 c.in-Some.ensures.1 (refused d line refuses));
    }

pub overflow_add-line_number : goal.overflow_add-line_number
overflow_add-line_number c =
    omega (arith, few_read IsLiveText c.args.bytes.now c.loop-rest.rest.now (draft_lines c.loop-rest.draft) c.loop-rest.line_number c.loop-rest.invariant.1)

pub loop-rest-preserved : goal.loop-rest-preserved
loop-rest-preserved c =
    let bytes = c.args.bytes.now in
    let rest = c.loop-rest.rest.now in
    let behind = c.in-Some.behind.now in
    let line = c.in-Some.line.now in
    let old = c.loop-rest.draft in
    let new = c.accept.new.self in
    let taken : IsDraft new × (draft_lines new ≡ draft_lines old ++ (line ∷ [])) = rw (c.in-Ok.is, c.if-not-taken.false) at c.accept.ensures in (
      taken.0,
      one_more IsLiveText bytes rest behind line (draft_lines old) (draft_lines new) (lines_after new.stage (live_of new)) c.loop-rest.line_number c.loop-rest.invariant.1
          taken.1 (draft_begins new taken.0) c.in-Some.ensures.0 c.in-Some.ensures.1,
    )

pub returns-in-None : goal.returns-in-None
returns-in-None c =
    let bytes = c.args.bytes.now in
    let rest = c.loop-rest.rest.now in
    let d = c.loop-rest.draft in
    let n = c.loop-rest.line_number in
    record {
      live = bad_at bytes n (early_at IsLiveText are_lines bytes rest (draft_lines d) n c.loop-rest.invariant.1 (empty_is rest c.loop-rest-test.ensures)
          (no_whole d c.loop-rest.invariant.0 c.in-None.ensures));
    }

use Rattle.std.proofs.Common.{◌∷◌, [], ◌∙◌}
use Rattle.report_text.proofs.LineText.{feed_is_next, front_is_line, line_found, not_there, prefix_found}
use Rattle.report_text.proofs.lines.line_then.Goals as goal

pub returns-in_default : goal.returns-in_default
returns-in_default c = λ line rest e.
    let next = feed_is_next line c.args.bytes.now rest e in
    not_there (10 ∷ []) next.0 c.split_at.result.1.now c.in_default.ensures.cases (c.split_at.ensures.back ∙ (rw c.line_length.ensures.line next.1))

pub returns : goal.returns
returns c = (
  rw (c.split_at.ensures.front, c.line_length.ensures.line) (front_is_line c.args.bytes.now),
  line_found c.args.bytes.now c.split_at.result.0.now c.split_at.result.1.now c.in-Some.rest.now c.line_length.result c.split_at.ensures.front c.split_at.ensures.back
      (prefix_found (10 ∷ []) c.split_at.result.1.now c.in-Some.rest.now c.in-Some.ensures.cases.0 c.in-Some.ensures.cases.1),
)

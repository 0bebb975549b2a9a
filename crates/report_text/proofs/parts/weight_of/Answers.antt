use Rattle.std.proofs.Common.{arith}
use Rattle.report_text.proofs.PartText.{empty_is, no_weight, not_empty, only_weight, weight_found}
use Rattle.report_text.proofs.parts.weight_of.Goals as goal

pub returns-in_default : goal.returns-in_default
returns-in_default c = no_weight c.args.weighed c.args.bytes.now c.if-not-weighed.false (λ n rest le stops e. c.in_default.ensures n rest (omega arith) stops e)

pub returns-then-weight-eq0 : goal.returns-then-weight-eq0
returns-then-weight-eq0 c = λ weight h e.
    let only = only_weight c.args.weighed c.args.bytes.now c.in-Some.rest.now c.in-Some.weight c.if-not-weighed.false (omega (arith, c.in-Some.ensures.0)) c.in-Some.ensures.1
    c.in-Some.ensures.2 weight h e in
    absurd (omega (arith, only.0))

pub returns-then-not-is_empty : goal.returns-then-not-is_empty
returns-then-not-is_empty c = λ weight h e.
    let only = only_weight c.args.weighed c.args.bytes.now c.in-Some.rest.now c.in-Some.weight c.if-not-weighed.false (omega (arith, c.in-Some.ensures.0)) c.in-Some.ensures.1
    c.in-Some.ensures.2 weight h e in
    not_empty c.in-Some.rest.now c.if-not-is_empty.ensures only.1

pub returns : goal.returns
returns c =
    weight_found c.args.weighed c.args.bytes.now c.in-Some.rest.now c.in-Some.weight c.if-not-weighed.false c.if-weight-eq0.false (omega (arith, c.in-Some.ensures.0))
    c.in-Some.ensures.1 (empty_is c.in-Some.rest.now c.if-not-is_empty.ensures)

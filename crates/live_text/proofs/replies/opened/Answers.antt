use Rattle.std.proofs.Common.{arith}
use Rattle.live_text.proofs.DealText.{opened_second, opened_third}
use Rattle.live_text.proofs.replies.opened.Goals as goal

pub returns-in_default-field_then : goal.returns-in_default-field_then
returns-in_default-field_then c = λ most. opened_second c.args.bytes.now c.in-Some.rest.now c.in-Some.slot most (omega (arith, c.in-Some.ensures.1)) c.in-Some.ensures.3
    c.in-Some.ensures.2 c.in_default-field_then.ensures

pub returns-in_default-last_of : goal.returns-in_default-last_of
returns-in_default-last_of c = λ most. opened_third c.args.bytes.now c.in-Some.rest.now c.in-Some-field_then.rest.now c.in-Some.slot c.in-Some-field_then.slots most
    (omega (arith, c.in-Some.ensures.1)) c.in-Some.ensures.3 c.in-Some.ensures.2 (omega (arith, c.in-Some-field_then.ensures.1)) c.in-Some-field_then.ensures.3
    c.in-Some-field_then.ensures.2 (λ n ge le. c.in_default-last_of.ensures n ge (omega (arith, le, c.from.ensures)))

use Rattle.std.proofs.Common.{arith}
use Rattle.live_text.proofs.DealText.{rank_second}
use Rattle.live_text.proofs.replies.pulled.Goals as goal

pub returns-in_default-last_of : goal.returns-in_default-last_of
returns-in_default-last_of c = λ id. rank_second c.args.bytes.now c.in-Some-field_then.rest.now c.in-Some-field_then.version id (omega (arith, c.in-Some-field_then.ensures.1))
    c.in-Some-field_then.ensures.3 c.in-Some-field_then.ensures.2 (λ n ge le. c.in_default-last_of.ensures n ge (omega (arith, le, c.from-3.ensures)))

use Rattle.std.proofs.Common.{[], arith}
use Rattle.report_text.proofs.PartText.{not_empty}
use Rattle.live_text.proofs.FieldText.{at_end, field_unique}
use Rattle.live_text.proofs.fields.last_of.Goals as goal

pub returns-in_default : goal.returns-in_default
returns-in_default c = λ n ge le e. c.in_default.ensures n [] ge le tt (at_end c.args.word.now c.args.bytes.now n e)

pub returns-else-is_empty : goal.returns-else-is_empty
returns-else-is_empty c = λ n ge le e.
    let same = field_unique c.args.word.now c.args.bytes.now c.in-Some.rest.now [] c.in-Some.number n (omega (arith, c.in-Some.ensures.1)) (omega (arith, le))
    c.in-Some.ensures.3 tt c.in-Some.ensures.2 (at_end c.args.word.now c.args.bytes.now n e) in
    not_empty c.in-Some.rest.now c.if-is_empty.ensures same.1

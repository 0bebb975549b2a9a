use Rattle.std.proofs.Common.{[], sym, ◌∙◌, append-nil, arith}
use Rattle.coflow_units.specs.Text.{spaced}
use Rattle.report_text.proofs.PartText.{not_empty, same_number}
use Rattle.online_text.proofs.parts.number_of.Goals as goal

pub returns-in_default : goal.returns-in_default
returns-in_default c = λ n small e. c.in_default.ensures n [] small tt (e ∙ sym (append-nil (spaced n)))

pub returns-else-is_empty : goal.returns-else-is_empty
returns-else-is_empty c = λ n small e.
    let same = same_number c.args.bytes.now c.in-Some.rest.now [] c.in-Some.number n (omega (arith, c.in-Some.ensures.0)) (omega (arith, small)) c.in-Some.ensures.2 tt
    c.in-Some.ensures.1 (e ∙ sym (append-nil (spaced n))) in
    not_empty c.in-Some.rest.now c.if-is_empty.ensures same.1

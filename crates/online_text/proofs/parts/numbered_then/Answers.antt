use Rattle.std.proofs.Common.{◌≡◌, ◌++◌, sym, ap, ◌∙◌, arith}
use Rattle.std.proofs.lemmas.List.{append_cancel_left}
use Rattle.coflow_units.specs.Text.{spaced}
use Rattle.report_text.proofs.LineText.{not_there, prefix_found}
use Rattle.report_text.proofs.PartText.{same_number}
use Rattle.online_text.proofs.parts.numbered_then.Goals as goal

pub returns-in_default : goal.returns-in_default
returns-in_default c = λ rest stops e. not_there c.args.word.now (spaced c.args.number ++ rest) c.args.line.now c.in_default.ensures.cases e

pub returns-in_default-number_then : goal.returns-in_default-number_then
returns-in_default-number_then c = λ rest stops e.
    let word : c.args.line.now ≡ c.args.word.now ++ c.in-Some.rest.now =
    prefix_found c.args.word.now c.args.line.now c.in-Some.rest.now c.in-Some.ensures.cases.0 c.in-Some.ensures.cases.1 in
    c.in_default-number_then.ensures c.args.number rest (omega arith) stops
    (append_cancel_left c.args.word.now c.in-Some.rest.now (spaced c.args.number ++ rest) (sym word ∙ e))

pub returns-then-read-number : goal.returns-then-read-number
returns-then-read-number c =
    let word : c.args.line.now ≡ c.args.word.now ++ c.in-Some.rest.now =
    prefix_found c.args.word.now c.args.line.now c.in-Some.rest.now c.in-Some.ensures.cases.0 c.in-Some.ensures.cases.1 in
    let number : c.in-Some.rest.now ≡ spaced c.args.number ++ c.in-Some-number_then.rest.now =
    c.in-Some-number_then.ensures.1 ∙ ap (λ n. spaced n ++ c.in-Some-number_then.rest.now) c.if-read-number.true in
    (word ∙ ap (λ x. c.args.word.now ++ x) number, c.in-Some-number_then.ensures.2)

pub returns-else-read-number : goal.returns-else-read-number
returns-else-read-number c = λ rest stops e.
    let word : c.args.line.now ≡ c.args.word.now ++ c.in-Some.rest.now =
    prefix_found c.args.word.now c.args.line.now c.in-Some.rest.now c.in-Some.ensures.cases.0 c.in-Some.ensures.cases.1 in
    let same = same_number c.in-Some.rest.now c.in-Some-number_then.rest.now rest c.in-Some-number_then.read c.args.number (omega (arith, c.in-Some-number_then.ensures.0))
    (omega arith) c.in-Some-number_then.ensures.2 stops c.in-Some-number_then.ensures.1
    (append_cancel_left c.args.word.now c.in-Some.rest.now (spaced c.args.number ++ rest) (sym word ∙ e)) in
    c.if-read-number.false same.0

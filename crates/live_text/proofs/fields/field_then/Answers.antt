use Rattle.std.proofs.Common.{◌≡◌, ◌++◌, sym, ap, ◌∙◌, arith}
use Rattle.coflow_units.specs.Text.{spaced}
use Rattle.report_text.proofs.LineText.{not_there, prefix_found}
use Rattle.report_text.proofs.NumberText.{spaced_unique}
use Rattle.live_text.proofs.FieldText.{behind_word}
use Rattle.live_text.proofs.fields.field_then.Goals as goal

pub returns-in_default : goal.returns-in_default
returns-in_default c = λ n rest ge le stops e. not_there c.args.word.now (spaced n ++ rest) c.args.bytes.now c.in_default.ensures.cases e

pub returns-then-number-least : goal.returns-then-number-least
returns-then-number-least c = λ n rest ge le stops e.
    let word : c.args.bytes.now ≡ c.args.word.now ++ c.in-Some.digits.now =
    prefix_found c.args.word.now c.args.bytes.now c.in-Some.digits.now c.in-Some.ensures.cases.0 c.in-Some.ensures.cases.1 in
    let digits : c.in-Some.digits.now ≡ spaced n ++ rest = behind_word c.args.word.now c.args.bytes.now c.in-Some.digits.now (spaced n ++ rest) word e in
    let same = spaced_unique c.in-Some-up_to.rest.now rest c.in-Some-up_to.number n (omega (arith, c.in-Some-up_to.ensures.0)) (omega (arith, le)) c.in-Some-up_to.ensures.2 stops
    (sym c.in-Some-up_to.ensures.1 ∙ digits) in
    absurd (omega (arith, same.0, c.if-number-least.true, ge))

pub returns : goal.returns
returns c =
    let word : c.args.bytes.now ≡ c.args.word.now ++ c.in-Some.digits.now =
    prefix_found c.args.word.now c.args.bytes.now c.in-Some.digits.now c.in-Some.ensures.cases.0 c.in-Some.ensures.cases.1 in
    (omega (arith, c.if-number-least.false), c.in-Some-up_to.ensures.0, word ∙ ap (λ x. c.args.word.now ++ x) c.in-Some-up_to.ensures.1, c.in-Some-up_to.ensures.2)

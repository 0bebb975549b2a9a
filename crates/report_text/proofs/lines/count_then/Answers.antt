use Rattle.std.proofs.Common.{◌≡◌, ◌++◌, ◌∷◌, sym, ap, ◌∙◌, arith, refl, false, true, drop, take}
use Rattle.std.specs.Prelude.{codes}
use Rattle.report_text.proofs.DigitText.{all_read, field_is, front_is_less, plain_field, plain_is}
use Rattle.report_text.proofs.NumberText.{number_found}
use Rattle.report_text.proofs.lines.count_then.Goals as goal

pub returns-then-number-most : goal.returns-then-number-most
returns-then-number-most c = λ n rest le stops e.
    let space : c.args.bytes.now ≡ codes " " ++ c.in-Some.digits.now = c.in-Some.ensures.cases.0 ∙ ap (λ x. x ∷ c.in-Some.digits.now) c.if-first-ne32.false in
    absurd (omega (
      arith,
      front_is_less c.in-Some.digits.now rest n c.leading_number-number.result.0 c.leading_number-number.result.1 c.args.most (omega (arith, c.requires)) stops
          (ap (drop 1) (sym space ∙ e)) c.leading_number-number.ensures,
      c.if-number-most.true,
      le,
    ))

pub returns-then-not-is_plain : goal.returns-then-not-is_plain
returns-then-not-is_plain c = λ n rest le stops e.
    let space : c.args.bytes.now ≡ codes " " ++ c.in-Some.digits.now = c.in-Some.ensures.cases.0 ∙ ap (λ x. x ∷ c.in-Some.digits.now) c.if-first-ne32.false in
    let field = field_is c.in-Some.digits.now rest n c.leading_number-number.result.0 c.leading_number-number.result.1 c.args.most (omega (arith, c.requires)) stops
    (ap (drop 1) (sym space ∙ e)) c.leading_number-number.ensures c.if-number-most.false in
    let plain = plain_field c.in-Some.digits.now n c.leading_number-number.result.1 (omega (arith, c.requires)) c.leading_number-number.ensures.0 field in
    let bad : false ≡ true = c.if-not-is_plain.ensures.1 plain in
    cc

pub returns : goal.returns
returns c =
    let space : c.args.bytes.now ≡ codes " " ++ c.in-Some.digits.now = c.in-Some.ensures.cases.0 ∙ ap (λ x. x ∷ c.in-Some.digits.now) c.if-first-ne32.false in
    let plain = c.if-not-is_plain.ensures.0 refl in
    let field = plain_is c.in-Some.digits.now c.leading_number-number.result.0 c.leading_number-number.result.1 c.args.most c.requires c.leading_number-number.ensures
    c.if-number-most.false plain.0 plain.1 in (
      c.if-number-most.false,
      number_found c.args.bytes.now c.in-Some.digits.now (take c.leading_number-number.result.1 c.in-Some.digits.now) c.split_at.result.1.now c.leading_number-number.result.1
          c.leading_number-number.result.0 space refl c.split_at.ensures.back field,
      rw c.split_at.ensures.back (all_read c.in-Some.digits.now c.leading_number-number.result.0 c.leading_number-number.result.1 c.args.most c.leading_number-number.ensures
          c.if-number-most.false),
    )

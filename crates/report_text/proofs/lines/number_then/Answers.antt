use Rattle.std.proofs.Common.{◌≡◌, ◌<◌, ◌^◌, ◌++◌, ◌∷◌, [], sym, ap, ◌∙◌, arith, Ok}
use Rattle.std.specs.Prelude.{codes, decimal}
use Rattle.report_text.proofs.LineText.{not_same, prefix_found, same_list}
use Rattle.report_text.proofs.NumberText.{behind_space, digits_stop, is_text, number_found, number_parts, parses, same_read}
use Rattle.report_text.proofs.lines.number_then.Goals as goal

pub returns-in_default-from_utf8 : goal.returns-in_default-from_utf8
returns-in_default-from_utf8 c = λ n rest le stops e.
    let small : n < 2 ^ 128 = omega arith in
    let space : c.args.bytes.now ≡ codes " " ++ c.in-Some.digits.now =
    prefix_found (32 ∷ []) c.args.bytes.now c.in-Some.digits.now c.in-Some.ensures.cases.0 c.in-Some.ensures.cases.1 in
    let p = number_parts c.in-Some.digits.now rest n c.digits_length.result small stops (behind_space _ _ rest n space e) c.digits_length.ensures.digits in
    c.in_default-from_utf8.ensures.cases.0 (is_text c.split_at.result.0.now n small (c.split_at.ensures.front ∙ p.0))

pub returns-in_default-parse : goal.returns-in_default-parse
returns-in_default-parse c = λ n rest le stops e.
    let small : n < 2 ^ 128 = omega arith in
    let space : c.args.bytes.now ≡ codes " " ++ c.in-Some.digits.now =
    prefix_found (32 ∷ []) c.args.bytes.now c.in-Some.digits.now c.in-Some.ensures.cases.0 c.in-Some.ensures.cases.1 in
    let p = number_parts c.in-Some.digits.now rest n c.digits_length.result small stops (behind_space _ _ rest n space e) c.digits_length.ensures.digits in
    let field : c.in-Ok.text.now ≡ decimal n = c.in-Ok.ensures.cases.0 ∙ (c.split_at.ensures.front ∙ p.0) in
    c.in_default-parse.not-Ok n (parses c.in-Ok.text.now n c.parse.result small field c.parse.ensures.value.0)

pub returns-then-number-most : goal.returns-then-number-most
returns-then-number-most c = λ n rest le stops e.
    let small : n < 2 ^ 128 = omega arith in
    let space : c.args.bytes.now ≡ codes " " ++ c.in-Some.digits.now =
    prefix_found (32 ∷ []) c.args.bytes.now c.in-Some.digits.now c.in-Some.ensures.cases.0 c.in-Some.ensures.cases.1 in
    let p = number_parts c.in-Some.digits.now rest n c.digits_length.result small stops (behind_space _ _ rest n space e) c.digits_length.ensures.digits in
    let field : c.in-Ok.text.now ≡ decimal n = c.in-Ok.ensures.cases.0 ∙ (c.split_at.ensures.front ∙ p.0) in
    let read : c.parse.result ≡ Ok n = parses c.in-Ok.text.now n c.parse.result small field c.parse.ensures.value.0 in
    let same : c.in-Ok-parse.number ≡ n = same_read c.parse.result c.in-Ok-parse.number n c.in-Ok-parse.is read in
    absurd (omega arith)

pub returns-then-eq : goal.returns-then-eq
returns-then-eq c =
    let space : c.args.bytes.now ≡ codes " " ++ c.in-Some.digits.now =
    prefix_found (32 ∷ []) c.args.bytes.now c.in-Some.digits.now c.in-Some.ensures.cases.0 c.in-Some.ensures.cases.1 in
    let field : c.split_at.result.0.now ≡ decimal c.in-Ok-parse.number = sym (same_list c.as_bytes.result.now c.split_at.result.0.now (sym c.if-eq.ensures)) ∙
    (c.as_bytes.ensures.value ∙ c.format.ensures.text) in (
      omega arith,
      number_found c.args.bytes.now c.in-Some.digits.now c.split_at.result.0.now c.split_at.result.1.now c.digits_length.result c.in-Ok-parse.number space c.split_at.ensures.front
          c.split_at.ensures.back field,
      rw (c.split_at.ensures.back, c.digits_length.ensures.digits) (digits_stop c.in-Some.digits.now),
    )

pub returns-else-eq : goal.returns-else-eq
returns-else-eq c = λ n rest le stops e.
    let small : n < 2 ^ 128 = omega arith in
    let space : c.args.bytes.now ≡ codes " " ++ c.in-Some.digits.now =
    prefix_found (32 ∷ []) c.args.bytes.now c.in-Some.digits.now c.in-Some.ensures.cases.0 c.in-Some.ensures.cases.1 in
    let p = number_parts c.in-Some.digits.now rest n c.digits_length.result small stops (behind_space _ _ rest n space e) c.digits_length.ensures.digits in
    let text : c.in-Ok.text.now ≡ decimal n = c.in-Ok.ensures.cases.0 ∙ (c.split_at.ensures.front ∙ p.0) in
    let read : c.parse.result ≡ Ok n = parses c.in-Ok.text.now n c.parse.result small text c.parse.ensures.value.0 in
    let same : c.in-Ok-parse.number ≡ n = same_read c.parse.result c.in-Ok-parse.number n c.in-Ok-parse.is read in
    let printed : c.as_bytes.result.now ≡ c.split_at.result.0.now = c.as_bytes.ensures.value ∙ (c.format.ensures.text ∙ (ap decimal same ∙ sym (c.split_at.ensures.front ∙ p.0))) in
    not_same c.as_bytes.result.now c.split_at.result.0.now (sym c.if-eq.ensures) printed

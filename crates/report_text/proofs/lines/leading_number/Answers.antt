use Rattle.std.proofs.Common.{◌+◌, ◌*◌, inl, inr, sym, ap, ◌∙◌, arith}
use Rattle.report_text.proofs.DigitText.{one_more_digit, stops_at_end, stops_there}
use Rattle.report_text.proofs.lines.leading_number.Goals as goal

pub digits-preserved : goal.digits-preserved
digits-preserved c =
    let more = one_more_digit c.args.digits.now c.digits.number c.digits.count c.digits-test.true (sym c.is_ascii_digit.ensures.value ∙ c.if-not-is_ascii_digit.false)
    c.digits.invariant.digits c.digits.invariant.value in
    record {
      within = omega (arith, c.digits-test.true);
      digits = more.0;
      value = more.1 ∙ ap (λ x. c.digits.number * 10 + x) (sym c.from.ensures);
    }

pub returns-then-not-is_ascii_digit : goal.returns-then-not-is_ascii_digit
returns-then-not-is_ascii_digit c =
    let stops =
    stops_there c.args.digits.now c.digits.count c.digits-test.true (sym c.is_ascii_digit.ensures.value ∙ c.if-not-is_ascii_digit.true) in
    (c.digits.invariant.within, c.digits.invariant.digits, c.digits.invariant.value, inr stops)

pub returns-then-number-most : goal.returns-then-number-most
returns-then-number-most c = (c.digits.invariant.within, c.digits.invariant.digits, c.digits.invariant.value, inl c.if-number-most.true)

pub returns : goal.returns
returns c =
    (c.digits.invariant.within, c.digits.invariant.digits, c.digits.invariant.value, inr (stops_at_end c.args.digits.now c.digits.count c.digits-test.false))

use Rattle.std.proofs.Common.{arith}
use Rattle.report_text.proofs.DigitText.{has_digits, has_one_digit}
use Rattle.report_text.proofs.numbers.width_of.Goals as goal

pub returns-in-0-to-9 : goal.returns-in-0-to-9
returns-in-0-to-9 c = has_one_digit c.args.number (omega (arith, c.in-0-to-9))

pub returns-in-10-to-99 : goal.returns-in-10-to-99
returns-in-10-to-99 c = has_digits 1 c.args.number (omega (arith, c.in-10-to-99)) (omega (arith, c.in-10-to-99)) (omega (arith, c.ranges.number))

pub returns-in-100-to-999 : goal.returns-in-100-to-999
returns-in-100-to-999 c = has_digits 2 c.args.number (omega (arith, c.in-100-to-999)) (omega (arith, c.in-100-to-999)) (omega (arith, c.ranges.number))

pub returns-in-1000-to-9999 : goal.returns-in-1000-to-9999
returns-in-1000-to-9999 c = has_digits 3 c.args.number (omega (arith, c.in-1000-to-9999)) (omega (arith, c.in-1000-to-9999)) (omega (arith, c.ranges.number))

pub returns-in-10000-to-99999 : goal.returns-in-10000-to-99999
returns-in-10000-to-99999 c = has_digits 4 c.args.number (omega (arith, c.in-10000-to-99999)) (omega (arith, c.in-10000-to-99999)) (omega (arith, c.ranges.number))

pub returns-in-100000-to-999999 : goal.returns-in-100000-to-999999
returns-in-100000-to-999999 c = has_digits 5 c.args.number (omega (arith, c.in-100000-to-999999)) (omega (arith, c.in-100000-to-999999)) (omega (arith, c.ranges.number))

pub returns-in-1000000-to-9999999 : goal.returns-in-1000000-to-9999999
returns-in-1000000-to-9999999 c = has_digits 6 c.args.number (omega (arith, c.in-1000000-to-9999999)) (omega (arith, c.in-1000000-to-9999999)) (omega (arith, c.ranges.number))

pub returns-in-10000000-to-99999999 : goal.returns-in-10000000-to-99999999
returns-in-10000000-to-99999999 c =
    has_digits 7 c.args.number (omega (arith, c.in-10000000-to-99999999)) (omega (arith, c.in-10000000-to-99999999)) (omega (arith, c.ranges.number))

pub returns-in-100000000-to-999999999 : goal.returns-in-100000000-to-999999999
returns-in-100000000-to-999999999 c =
    has_digits 8 c.args.number (omega (arith, c.in-100000000-to-999999999)) (omega (arith, c.in-100000000-to-999999999)) (omega (arith, c.ranges.number))

pub returns-in_default : goal.returns-in_default
returns-in_default c = has_digits 9 c.args.number (omega (arith, c.in_default)) (omega (arith, c.ranges.number)) (omega (arith, c.ranges.number))

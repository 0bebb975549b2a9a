-- the digits so far, and their number
use Rattle.std.proofs.Common.{◌≡◌, ◌≤◌, ◌-◌, true, length, take}
use Rattle.std.specs.Str.{all_ascii_digits}
use Rattle.std.specs.Str.Parse.{digits_value}
use Rattle.report_text.proofs.lines.leading_number.Given as goal

abbrev pub invariant-digits : goal.invariant-digits
invariant-digits l = record {
  within : l.count ≤ length l.digits;
  digits : all_ascii_digits (take l.count l.digits) ≡ true;
  value : digits_value 10 (take l.count l.digits) ≡ l.number;
}

abbrev pub decreases-digits : goal.decreases-digits
decreases-digits l = length l.digits - l.count

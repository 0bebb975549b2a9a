use Rattle.std.proofs.Common.{◌≡◌, ℕ, arith, sym, true, length, take, drop}
use Rattle.std.specs.Prelude.{min}
use Rattle.std.specs.List.{list_all}
use Rattle.text_fields.specs.Fields.{Text}
use Rattle.text_fields.specs.Numbers.{is_digit}
use Rattle.text_fields.proofs.DecimalDigits.{Parts, fraction_exact, fraction_above, fraction_most, front_value}
use Rattle.text_fields.proofs.decimals.fraction_of.Goals as goal

make : (digits front rest : Text) (k : ℕ) → k ≡ min (length digits) 6 → list_all is_digit digits ≡ true → front ≡ take k digits → rest ≡ drop k digits → Parts digits front rest
make digits front rest k e d f r = record { digit = d; front_is = rw (← e) f; rest_is = rw (← e) r }

pub returns-then-has_zeros_alone-clause-value : goal.returns-then-has_zeros_alone-clause-value
returns-then-has_zeros_alone-clause-value c =
    let p = make c.args.digits.now c.split_at.result.0.now c.split_at.result.1.now c.min.result c.min.ensures c.requires c.split_at.ensures.front c.split_at.ensures.back in
    rw (front_value _ _ _ c.in-Some.number p c.in-Some.ensures.1) (fraction_exact _ _ _ p (sym c.if-has_zeros_alone.ensures))

pub returns-else-has_zeros_alone-clause-value : goal.returns-else-has_zeros_alone-clause-value
returns-else-has_zeros_alone-clause-value c =
    let p = make c.args.digits.now c.split_at.result.0.now c.split_at.result.1.now c.min.result c.min.ensures c.requires c.split_at.ensures.front c.split_at.ensures.back in
    rw (front_value _ _ _ c.in-Some.number p c.in-Some.ensures.1) (fraction_above _ _ _ p (sym c.if-has_zeros_alone.ensures))

pub returns-then-has_zeros_alone-clause-most : goal.returns-then-has_zeros_alone-clause-most
returns-then-has_zeros_alone-clause-most c =
    let p = make c.args.digits.now c.split_at.result.0.now c.split_at.result.1.now c.min.result c.min.ensures c.requires c.split_at.ensures.front c.split_at.ensures.back in
    let m = fraction_most _ _ _ 0 p (omega arith) in
    rw (front_value _ _ _ c.in-Some.number p c.in-Some.ensures.1) (omega (arith, m))

pub returns-else-has_zeros_alone-clause-most : goal.returns-else-has_zeros_alone-clause-most
returns-else-has_zeros_alone-clause-most c =
    let p = make c.args.digits.now c.split_at.result.0.now c.split_at.result.1.now c.min.result c.min.ensures c.requires c.split_at.ensures.front c.split_at.ensures.back in
    rw (front_value _ _ _ c.in-Some.number p c.in-Some.ensures.1) (fraction_most _ _ _ 1 p (omega arith))

pub overflow_mul-result : goal.overflow_mul-result
overflow_mul-result c =
    let p = make c.args.digits.now c.split_at.result.0.now c.split_at.result.1.now c.min.result c.min.ensures c.requires c.split_at.ensures.front c.split_at.ensures.back in
    let m = fraction_most _ _ _ 0 p (omega arith) in
    rw (front_value _ _ _ c.in-Some.number p c.in-Some.ensures.1) (omega (arith, m))

pub overflow_add-result : goal.overflow_add-result
overflow_add-result c =
    let p = make c.args.digits.now c.split_at.result.0.now c.split_at.result.1.now c.min.result c.min.ensures c.requires c.split_at.ensures.front c.split_at.ensures.back in
    let m = fraction_most _ _ _ 1 p (omega arith) in
    rw (front_value _ _ _ c.in-Some.number p c.in-Some.ensures.1) (omega (arith, m))

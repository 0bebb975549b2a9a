use Rattle.std.proofs.Common.{arith, sym, ◌∙◌, refl}
use Rattle.text_fields.proofs.DecimalDigits.{no_point, point_parts, plain_value, point_value}
use Rattle.text_fields.proofs.decimals.decimal_of.Goals as goal

pub returns-in_default : goal.returns-in_default
returns-in_default c =
    let parts = no_point c.args.field.now c.in_default.ensures in
    let n = c.in-Some-number_of.ensures in
    let one = plain_value c.args.field.now c.in-Some-number_of.whole 1 parts n.1 (omega arith) in (
      rw (parts.0, ← c.in_default.ensures, n.0) refl,
      c.saturating_mul.ensures ∙ plain_value c.args.field.now c.in-Some-number_of.whole 1000000 parts n.1 (omega arith),
      omega (arith, one, n.1),
    )

pub returns-then-not-is_number : goal.returns-then-not-is_number
returns-then-not-is_number c =
    let parts = point_parts c.args.field.now c.in-Some.point c.in-Some.ensures in
    let n = rw parts.0 at c.in-Some-number_of-2.ensures.0 in
    let m = rw parts.1 at c.if-not-is_number.ensures in
    rw (n, ← c.in-Some.ensures, ← m) refl

pub returns : goal.returns
returns c =
    let parts = point_parts c.args.field.now c.in-Some.point c.in-Some.ensures in
    let n = rw parts.0 at c.in-Some-number_of-2.ensures in
    let m = rw parts.1 at c.if-not-is_number.ensures in
    let f = rw parts.1 at c.fraction_of-fraction.ensures.value in
    let v = point_value c.args.field.now c.in-Some-number_of-2.whole c.fraction_of-fraction.result (sym m) n.1 f in
    (rw (n.0, ← c.in-Some.ensures, ← m) refl, c.saturating_add.ensures ∙ rw c.saturating_mul-2.ensures v.0, c.saturating_add-2.ensures ∙ rw c.min.ensures v.1)

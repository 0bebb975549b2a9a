use Rattle.std.proofs.Common.{sym}
use Rattle.text_fields.specs.Numbers.{number}
use Rattle.orders.proofs.LineParts.{new_passes, repeated_fails, unknown_fails}
use Rattle.orders.proofs.Places.{none_unknown, some_known, told}
use Rattle.orders.proofs.line.coflow_of.Goals as goal

pub returns-in_default-number : goal.returns-in_default-number
returns-in_default-number c =
    unknown_fails c.args.coflows.now c.args.earlier.now.keys c.args.line c.args.field.now c.in-Some.ensures.0 c.in-Some.id c.in-Some.ensures.1
    (none_unknown c.args.coflows.now (number c.args.field.now) (c.in_default-number.ensures.number (number c.args.field.now) c.in-Some.ensures.1))

pub returns-then-contains : goal.returns-then-contains
returns-then-contains c =
    let known = some_known c.args.coflows.now (number c.args.field.now) c.in-Some-number.coflow (c.in-Some-number.ensures.number (number c.args.field.now) c.in-Some.ensures.1) in
    repeated_fails c.args.coflows.now c.args.earlier.now.keys c.args.line c.args.field.now c.in-Some.ensures.0 c.in-Some.id
    (told c.in-Some.id (number c.args.field.now) c.in-Some.ensures.1 c.in-Some-number.ensures.short) known.0 (sym c.if-contains.ensures)

pub returns-else-contains : goal.returns-else-contains
returns-else-contains c =
    let known = some_known c.args.coflows.now (number c.args.field.now) c.in-Some-number.coflow (c.in-Some-number.ensures.number (number c.args.field.now) c.in-Some.ensures.1) in
    let same = told c.in-Some.id (number c.args.field.now) c.in-Some.ensures.1 c.in-Some-number.ensures.short in (
      new_passes c.args.coflows.now c.args.earlier.now.keys c.args.line c.args.field.now c.in-Some.ensures.0 c.in-Some.id same known.0 (sym c.if-contains.ensures),
      (same, known.1),
    )

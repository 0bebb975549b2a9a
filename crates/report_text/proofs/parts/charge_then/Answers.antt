use Rattle.std.proofs.Common.{arith, refl, ◌∙◌}
use Rattle.report_text.specs.declared.value.PlaceLine.{PlaceLine}
use Rattle.report_text.specs.Report.{IsSmallPlace}
use Rattle.report_text.proofs.PartText.{after_id, after_number, after_side, after_y, charge_found, charge_parts, id_is, number_is, side_is, y_is}
use Rattle.report_text.proofs.parts.charge_then.Goals as goal

pub returns-in_default-side_then : goal.returns-in_default-side_then
returns-in_default-side_then c = λ p rest small stops e.
    let a = id_is p c.args.bytes.now rest c.in-Some.rest.now c.in-Some.id small e (omega (arith, c.in-Some.ensures.0)) c.in-Some.ensures.1 c.in-Some.ensures.2 in
    c.in_default-side_then.ensures p.port.side (after_side p rest) a.1

pub returns-in_default-number_then : goal.returns-in_default-number_then
returns-in_default-number_then c = λ p rest small stops e.
    let a = id_is p c.args.bytes.now rest c.in-Some.rest.now c.in-Some.id small e (omega (arith, c.in-Some.ensures.0)) c.in-Some.ensures.1 c.in-Some.ensures.2 in
    let b = side_is p c.in-Some.rest.now rest c.in-Some-side_then.rest.now c.in-Some-side_then.side a.1 c.in-Some-side_then.ensures in
    c.in_default-number_then.ensures p.port.number (after_number p rest) (omega (arith, small.port)) refl b.1

pub returns-in_default-number_then-2 : goal.returns-in_default-number_then-2
returns-in_default-number_then-2 c = λ p rest small stops e.
    let a = id_is p c.args.bytes.now rest c.in-Some.rest.now c.in-Some.id small e (omega (arith, c.in-Some.ensures.0)) c.in-Some.ensures.1 c.in-Some.ensures.2 in
    let b = side_is p c.in-Some.rest.now rest c.in-Some-side_then.rest.now c.in-Some-side_then.side a.1 c.in-Some-side_then.ensures in
    let d = number_is p c.in-Some-side_then.rest.now rest c.in-Some-number_then.rest.now c.in-Some-number_then.number small b.1 (omega (arith, c.in-Some-number_then.ensures.0))
    c.in-Some-number_then.ensures.1 c.in-Some-number_then.ensures.2 in
    c.in_default-number_then-2.ensures p.y (after_y p rest) (omega (arith, small.y)) refl d.1

pub returns-in_default-number_then-3 : goal.returns-in_default-number_then-3
returns-in_default-number_then-3 c = λ p rest small stops e.
    let a = id_is p c.args.bytes.now rest c.in-Some.rest.now c.in-Some.id small e (omega (arith, c.in-Some.ensures.0)) c.in-Some.ensures.1 c.in-Some.ensures.2 in
    let b = side_is p c.in-Some.rest.now rest c.in-Some-side_then.rest.now c.in-Some-side_then.side a.1 c.in-Some-side_then.ensures in
    let d = number_is p c.in-Some-side_then.rest.now rest c.in-Some-number_then.rest.now c.in-Some-number_then.number small b.1 (omega (arith, c.in-Some-number_then.ensures.0))
    c.in-Some-number_then.ensures.1 c.in-Some-number_then.ensures.2 in
    let f = y_is p c.in-Some-number_then.rest.now rest c.in-Some-number_then-2.rest.now c.in-Some-number_then-2.y small d.1 (omega (arith, c.in-Some-number_then-2.ensures.0))
    c.in-Some-number_then-2.ensures.1 c.in-Some-number_then-2.ensures.2 in
    c.in_default-number_then-3.ensures p.done rest (omega (arith, small.done)) stops f.1

pub returns-in_default : goal.returns-in_default
returns-in_default c = λ p rest small stops e. c.in_default.ensures p.id (after_id p rest) (omega (arith, small.id)) refl (e ∙ charge_parts p rest)

pub returns : goal.returns
returns c =
    let p : PlaceLine = record {
      id = c.in-Some.id;
      port = record { side = c.in-Some-side_then.side; number = c.in-Some-number_then.number };
      y = c.in-Some-number_then-2.y;
      done = c.in-Some-number_then-3.done;
    } in
    let small : IsSmallPlace p = record {
      id = omega (arith, c.in-Some.ensures.0);
      port = omega (arith, c.in-Some-number_then.ensures.0);
      y = omega (arith, c.in-Some-number_then-2.ensures.0);
      done = omega (arith, c.in-Some-number_then-3.ensures.0);
    } in (
      small,
      charge_found p c.args.bytes.now c.in-Some.rest.now c.in-Some-side_then.rest.now c.in-Some-number_then.rest.now c.in-Some-number_then-2.rest.now
          c.in-Some-number_then-3.rest.now c.in-Some.ensures.1 c.in-Some-side_then.ensures c.in-Some-number_then.ensures.1 c.in-Some-number_then-2.ensures.1
          c.in-Some-number_then-3.ensures.1,
      c.in-Some-number_then-3.ensures.2,
    )

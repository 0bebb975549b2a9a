use Rattle.std.proofs.Common.{◌≡◌, ◌++◌, arith, ap, ◌∙◌}
use Rattle.std.specs.Prelude.{codes}
use Rattle.coflow_units.specs.Text.{spaced}
use Rattle.live_text.proofs.LineReading.{order_built, order_rest}
use Rattle.live_text.proofs.lines.order_of.Goals as goal

pub returns-then-read-version : goal.returns-then-read-version
returns-then-read-version c = λ ids ge le small is.
    let rest = order_rest c.args.line.now c.in-Some.rest.now c.in-Some.read c.args.version ids (omega (arith, c.in-Some.ensures.1)) (omega (arith, le)) c.in-Some.ensures.3
    c.in-Some.ensures.2 is in
    c.if-read-version.true rest.0

pub returns-in_default-2 : goal.returns-in_default-2
returns-in_default-2 c = λ ids ge le small is.
    let rest = order_rest c.args.line.now c.in-Some.rest.now c.in-Some.read c.args.version ids (omega (arith, c.in-Some.ensures.1)) (omega (arith, le)) c.in-Some.ensures.3
    c.in-Some.ensures.2 is in
    let none = rw c.in_default-2.is at c.in_ok-ids.ensures in
    none ids small rest.1

pub returns : goal.returns
returns c =
    let ids = rw c.in-Some-2.is at c.in_ok-ids.ensures in
    let line : c.args.line.now ≡ codes "order" ++ (spaced c.args.version ++ c.in-Some.rest.now) =
    c.in-Some.ensures.2 ∙ ap (λ n. codes "order" ++ (spaced n ++ c.in-Some.rest.now)) c.if-read-version.false in
    (omega (arith, c.in-Some.ensures.1, c.if-read-version.false), ids.0, order_built c.args.line.now c.in-Some.rest.now c.args.version c.in-Some-2.ids line ids.1)

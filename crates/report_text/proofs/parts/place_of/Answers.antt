use Rattle.std.proofs.Common.{◌≡◌, ◌++◌, arith, refl, sym, ap, ◌∙◌}
use Rattle.std.specs.Prelude.{codes}
use Rattle.report_text.specs.Text.{charge_words, weight_word}
use Rattle.coflow_units.specs.Text.{spaced}
use Rattle.report_text.proofs.LineText.{not_there, prefix_found}
use Rattle.report_text.proofs.PartText.{behind_place, charge_unique, place_found, place_is, place_parts, weight_stops}
use Rattle.report_text.proofs.parts.place_of.Goals as goal

pub returns-then-read-number : goal.returns-then-read-number
returns-then-read-number c = λ p weight small h e.
    let word : c.args.line.now ≡ codes "place" ++ c.in-Some.rest.now =
    prefix_found (codes "place") c.args.line.now c.in-Some.rest.now c.in-Some.ensures.cases.0 c.in-Some.ensures.cases.1 in
    let a = place_is c.args.number c.in-Some-number_then.read p weight c.args.line.now c.in-Some.rest.now c.in-Some-number_then.rest.now (omega arith)
    (omega (arith, c.in-Some-number_then.ensures.0)) word e c.in-Some-number_then.ensures.1 c.in-Some-number_then.ensures.2 in
    c.if-read-number.true a.0

pub returns-in_default-charge_then : goal.returns-in_default-charge_then
returns-in_default-charge_then c = λ p weight small h e.
    let word : c.args.line.now ≡ codes "place" ++ c.in-Some.rest.now =
    prefix_found (codes "place") c.args.line.now c.in-Some.rest.now c.in-Some.ensures.cases.0 c.in-Some.ensures.cases.1 in
    let a = place_is c.args.number c.in-Some-number_then.read p weight c.args.line.now c.in-Some.rest.now c.in-Some-number_then.rest.now (omega arith)
    (omega (arith, c.in-Some-number_then.ensures.0)) word e c.in-Some-number_then.ensures.1 c.in-Some-number_then.ensures.2 in
    c.in_default-charge_then.ensures p (weight_word weight) small (weight_stops weight) a.1

pub returns-in_default-weight_of : goal.returns-in_default-weight_of
returns-in_default-weight_of c = λ p weight small h e.
    let word : c.args.line.now ≡ codes "place" ++ c.in-Some.rest.now =
    prefix_found (codes "place") c.args.line.now c.in-Some.rest.now c.in-Some.ensures.cases.0 c.in-Some.ensures.cases.1 in
    let a = place_is c.args.number c.in-Some-number_then.read p weight c.args.line.now c.in-Some.rest.now c.in-Some-number_then.rest.now (omega arith)
    (omega (arith, c.in-Some-number_then.ensures.0)) word e c.in-Some-number_then.ensures.1 c.in-Some-number_then.ensures.2 in
    let b = charge_unique c.in-Some-charge_then.place p c.in-Some-charge_then.rest.now (weight_word weight) c.in-Some-charge_then.ensures.0 small c.in-Some-charge_then.ensures.2
    (weight_stops weight) (sym c.in-Some-charge_then.ensures.1 ∙ a.1) in
    c.in_default-weight_of.ensures weight h b.1

pub returns-in_default : goal.returns-in_default
returns-in_default c = λ p weight small h e.
    not_there (codes "place") (spaced c.args.number ++ (charge_words p ++ weight_word weight)) c.args.line.now c.in_default.ensures.cases (e ∙ place_parts c.args.number p weight)

pub returns-in_default-number_then : goal.returns-in_default-number_then
returns-in_default-number_then c = λ p weight small h e.
    let word : c.args.line.now ≡ codes "place" ++ c.in-Some.rest.now =
    prefix_found (codes "place") c.args.line.now c.in-Some.rest.now c.in-Some.ensures.cases.0 c.in-Some.ensures.cases.1 in
    c.in_default-number_then.ensures c.args.number (charge_words p ++ weight_word weight) (omega arith) refl
    (behind_place c.args.number p weight c.args.line.now c.in-Some.rest.now word e)

pub returns : goal.returns
returns c =
    let word : c.args.line.now ≡ codes "place" ++ c.in-Some.rest.now =
    prefix_found (codes "place") c.args.line.now c.in-Some.rest.now c.in-Some.ensures.cases.0 c.in-Some.ensures.cases.1 in
    let number : c.in-Some.rest.now ≡ spaced c.args.number ++ c.in-Some-number_then.rest.now =
    c.in-Some-number_then.ensures.1 ∙ ap (λ k. spaced k ++ c.in-Some-number_then.rest.now) c.if-read-number.false in (
      c.in-Some-charge_then.ensures.0,
      c.in-Some-weight_of.ensures.0,
      place_found c.args.number c.in-Some-charge_then.place c.in-Some-weight_of.weight c.args.line.now c.in-Some.rest.now c.in-Some-number_then.rest.now
          c.in-Some-charge_then.rest.now word number c.in-Some-charge_then.ensures.1 c.in-Some-weight_of.ensures.1,
    )

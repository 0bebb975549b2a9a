use Rattle.std.proofs.Common.{refl, sym, ◌∙◌, arith}
use Rattle.report_text.proofs.NumberText.{spaced_unique}
use Rattle.report_text.proofs.PartText.{side_unique}
use Rattle.online_text.proofs.OneLines.{behind_id, behind_number, behind_side, words_parts}
use Rattle.online_text.proofs.parts.charge_then.Goals as goal

pub returns-in_default-side_then : goal.returns-in_default-side_then
returns-in_default-side_then c = λ id port y rest small stops e.
    let a = spaced_unique c.in-Some.rest.now (behind_id port y rest) c.in-Some.id id (omega (arith, c.in-Some.ensures.0)) (omega (arith, small.id_fits)) c.in-Some.ensures.2 refl
    (sym c.in-Some.ensures.1 ∙ (e ∙ words_parts id port y rest)) in
    c.in_default-side_then.ensures port.side (behind_side port y rest) a.1

pub returns-in_default-number_then : goal.returns-in_default-number_then
returns-in_default-number_then c = λ id port y rest small stops e.
    let a = spaced_unique c.in-Some.rest.now (behind_id port y rest) c.in-Some.id id (omega (arith, c.in-Some.ensures.0)) (omega (arith, small.id_fits)) c.in-Some.ensures.2 refl
    (sym c.in-Some.ensures.1 ∙ (e ∙ words_parts id port y rest)) in
    let b = side_unique c.in-Some-side_then.side port.side c.in-Some-side_then.rest.now (behind_side port y rest) (sym c.in-Some-side_then.ensures ∙ a.1) in
    c.in_default-number_then.ensures port.number (behind_number y rest) (omega (arith, small.port_fits)) refl b.1

pub returns-in_default-number_then-2 : goal.returns-in_default-number_then-2
returns-in_default-number_then-2 c = λ id port y rest small stops e.
    let a = spaced_unique c.in-Some.rest.now (behind_id port y rest) c.in-Some.id id (omega (arith, c.in-Some.ensures.0)) (omega (arith, small.id_fits)) c.in-Some.ensures.2 refl
    (sym c.in-Some.ensures.1 ∙ (e ∙ words_parts id port y rest)) in
    let b = side_unique c.in-Some-side_then.side port.side c.in-Some-side_then.rest.now (behind_side port y rest) (sym c.in-Some-side_then.ensures ∙ a.1) in
    let d = spaced_unique c.in-Some-number_then.rest.now (behind_number y rest) c.in-Some-number_then.number port.number (omega (arith, c.in-Some-number_then.ensures.0))
    (omega (arith, small.port_fits)) c.in-Some-number_then.ensures.2 refl (sym c.in-Some-number_then.ensures.1 ∙ b.1) in
    c.in_default-number_then-2.ensures y rest (omega (arith, small.y_fits)) stops d.1

use Rattle.std.proofs.Common.{◌≡◌, ◌++◌, drop, refl, sym, ap, ◌∙◌, append_assoc, arith}
use Rattle.std.specs.Prelude.{codes}
use Rattle.coflow_units.specs.Text.{spaced}
use Rattle.report_text.proofs.LineText.{prefix_found}
use Rattle.report_text.proofs.PartText.{same_number}
use Rattle.online_text.proofs.parts.done_of.Goals as goal

pub returns-in_default-number_of : goal.returns-in_default-number_of
returns-in_default-number_of c = λ d small e.
    let word : c.args.line.now ≡ codes "done" ++ c.in-Some.rest.now =
    prefix_found (codes "done") c.args.line.now c.in-Some.rest.now c.in-Some.ensures.cases.0 c.in-Some.ensures.cases.1 in
    let behind : c.in-Some.rest.now ≡ spaced d.id ++ spaced d.slot = ap (drop 4) (sym word ∙ (e ∙ append_assoc (codes "done") (spaced d.id) (spaced d.slot))) in
    let same = same_number c.in-Some.rest.now c.in-Some-number_then.rest.now (spaced d.slot) c.in-Some-number_then.id d.id (omega (arith, c.in-Some-number_then.ensures.0))
    (omega (arith, small.id)) c.in-Some-number_then.ensures.2 refl c.in-Some-number_then.ensures.1 behind in
    c.in_default-number_of.ensures d.slot (omega (arith, small.slot)) same.1

use Rattle.std.proofs.Common.{◌++◌, refl, sym, ◌∙◌, append_assoc, arith}
use Rattle.std.specs.Prelude.{codes}
use Rattle.coflow_units.specs.Text.{spaced}
use Rattle.online_text.specs.Text.{charge_words}
use Rattle.online_text.proofs.OneLines.{words_unique}
use Rattle.online_text.proofs.PartSteps.{behind_both}
use Rattle.online_text.proofs.parts.release_of.Goals as goal

pub returns-in_default-charge_then : goal.returns-in_default-charge_then
returns-in_default-charge_then c = λ r small e.
    let words = charge_words r.id r.port r.y in
    let rest = behind_both (codes "release") c.args.number c.args.line.now c.in-Some.rest.now (words ++ spaced r.z) c.in-Some.ensures.0
    (e ∙ append_assoc (codes "release" ++ spaced c.args.number) words (spaced r.z)) in
    c.in_default-charge_then.ensures r.id r.port r.y (spaced r.z) small.charge refl rest

pub returns-in_default-number_of : goal.returns-in_default-number_of
returns-in_default-number_of c = λ r small e.
    let words = charge_words r.id r.port r.y in
    let rest = behind_both (codes "release") c.args.number c.args.line.now c.in-Some.rest.now (words ++ spaced r.z) c.in-Some.ensures.0
    (e ∙ append_assoc (codes "release" ++ spaced c.args.number) words (spaced r.z)) in
    let read = c.in-Some-charge_then.field-0-0 in
    let same = words_unique read.id r.id read.port r.port read.y r.y c.in-Some-charge_then.rest.now (spaced r.z)
    c.in-Some-charge_then.ensures.0 small.charge c.in-Some-charge_then.ensures.2 refl (sym c.in-Some-charge_then.ensures.1 ∙ rest) in
    c.in_default-number_of.ensures r.z (omega (arith, small.z)) same.3

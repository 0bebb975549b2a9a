use Rattle.std.proofs.Common.{[], sym, ◌∙◌, append-nil}
use Rattle.std.specs.Prelude.{codes}
use Rattle.online_text.specs.Text.{charge_words}
use Rattle.online_text.proofs.OneLines.{words_unique}
use Rattle.report_text.proofs.PartText.{not_empty}
use Rattle.online_text.proofs.PartSteps.{behind_both}
use Rattle.online_text.proofs.parts.place_of.Goals as goal

pub returns-in_default-charge_then : goal.returns-in_default-charge_then
returns-in_default-charge_then c = λ p small e.
    let words = charge_words p.id p.port p.y in
    let rest = behind_both (codes "place") c.args.number c.args.line.now c.in-Some.rest.now words c.in-Some.ensures.0 e in
    c.in_default-charge_then.ensures p.id p.port p.y [] small tt (rest ∙ sym (append-nil words))

pub returns-else-is_empty : goal.returns-else-is_empty
returns-else-is_empty c = λ p small e.
    let read = c.in-Some-charge_then.place in
    let words = charge_words p.id p.port p.y in
    let rest = behind_both (codes "place") c.args.number c.args.line.now c.in-Some.rest.now words c.in-Some.ensures.0 e in
    let same = words_unique read.id p.id read.port p.port read.y p.y c.in-Some-charge_then.rest.now [] c.in-Some-charge_then.ensures.0 small c.in-Some-charge_then.ensures.2 tt
    (sym c.in-Some-charge_then.ensures.1 ∙ (rest ∙ sym (append-nil words))) in
    not_empty c.in-Some-charge_then.rest.now c.if-is_empty.ensures same.3

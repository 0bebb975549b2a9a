use Rattle.std.proofs.Common.{◌≡◌, length, take, drop, ◌-◌, arith, refl}
use Rattle.std.proofs.lemmas.Grind.{common_steps}
use Rattle.text_fields.specs.Fields.{Text, field_at, fields}
use Rattle.text_fields.proofs.FieldCuts.{next_is, start_of}
use Rattle.text_fields.proofs.fields.Fields.next.Goals as goal

abbrev next_parts : goal.After-rest-2-1 → Type 0
next_parts c = (c.split_at.result.0.now ≡ field_at (fields c.self.inside.rest.now) 0) × (fields c.split_at.result.1.now ≡ drop 1 (fields c.self.inside.rest.now))

parts : (c : goal.After-rest-2-1) → next_parts c
parts c =
    let line : Text = c.self.inside.rest.now in
    let text : Text = take (length line - c.field_start.result) (drop c.field_start.result line) in
    let text_is : text ≡ drop (start_of line) line = grind (arith, common_steps, c.field_start.ensures.start) in
    next_is line text c.split_at.result.0.now c.split_at.result.1.now text_is (rw (← c.field_end.ensures.end) c.split_at.ensures.front)
    (rw (← c.field_end.ensures.end) c.split_at.ensures.back)

pub returns-clause-field : goal.returns-clause-field
returns-clause-field c = rw (← c.self.view_is) (parts c).0

pub returns-clause-left : goal.returns-clause-left
returns-clause-left c = rw (← c.self.view_is, (parts c).1) refl

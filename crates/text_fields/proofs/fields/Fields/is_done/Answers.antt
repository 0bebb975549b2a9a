use Rattle.std.proofs.Common.{rules, ◌∙◌}
use Rattle.text_fields.specs.Fields.{fields}
use Rattle.text_fields.proofs.FieldCuts.{first_is_full, same_zero}
use Rattle.text_fields.proofs.fields.Fields.is_done.Goals as goal

pub returns : goal.returns
returns c =
    rw (← c.self.view_is) (c.is_empty.ensures ∙ same_zero c.next.result.now (fields c.self.inside.rest.now) (first_is_full c.self.inside.rest.now c.next.result.now (search rules)))

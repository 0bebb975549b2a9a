use Rattle.std.proofs.Common.{rules, ◌∙◌}
use Rattle.text_fields.proofs.FieldCuts.{first_is_full, not_empty}
use Rattle.text_fields.proofs.lines.has_field.Goals as goal

pub returns : goal.returns
returns c = not_empty c.next.result.now c.is_empty.result c.is_empty.ensures ∙ first_is_full c.args.line.now c.next.result.now (search rules)

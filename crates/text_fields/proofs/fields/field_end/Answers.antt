use Rattle.coflow_units.proofs.Fronts.{none_length}
use Rattle.text_fields.proofs.fields.field_end.Goals as goal

pub returns-in-None-clause-end : goal.returns-in-None-clause-end
returns-in-None-clause-end c = none_length _ c.args.text.now c.in-None.ensures

use Rattle.coflow_units.proofs.Fronts.{none_length}
use Rattle.text_fields.proofs.fields.field_start.Goals as goal

pub returns-in-None-clause-start : goal.returns-in-None-clause-start
returns-in-None-clause-start c = none_length _ c.args.text.now c.in-None.ensures

use Rattle.coflow_units.proofs.Fronts.{none_length}
use Rattle.report_text.proofs.lines.digits_length.Goals as goal

pub returns-in-None-clause-digits : goal.returns-in-None-clause-digits
returns-in-None-clause-digits c = none_length _ c.args.bytes.now c.in-None.ensures

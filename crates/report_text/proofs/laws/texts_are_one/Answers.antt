use Rattle.report_text.proofs.TextLaws.{reports_are_one}
use Rattle.report_text.proofs.laws.texts_are_one.Goals as goal

pub returns : goal.returns
returns c = reports_are_one

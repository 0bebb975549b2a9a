use Rattle.report_text.proofs.MadeOne.{made_one}
use Rattle.report_text.proofs.laws.summaries_are_one.Goals as goal

pub returns : goal.returns
returns c = made_one

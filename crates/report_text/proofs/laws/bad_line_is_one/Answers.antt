use Rattle.report_text.proofs.ReadingSteps.{line_is_one}
use Rattle.report_text.proofs.laws.bad_line_is_one.Goals as goal

pub returns : goal.returns
returns c = line_is_one

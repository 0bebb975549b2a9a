use Rattle.report_text.proofs.BenchOne.{compare_one}
use Rattle.report_text.proofs.laws.comparisons_are_one.Goals as goal

pub returns : goal.returns
returns c = compare_one

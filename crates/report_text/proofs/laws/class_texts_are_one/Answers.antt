use Rattle.report_text.proofs.BenchOne.{class_one}
use Rattle.report_text.proofs.laws.class_texts_are_one.Goals as goal

pub returns : goal.returns
returns c = class_one

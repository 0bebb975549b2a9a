use Rattle.std.proofs.Common.{refl, sym}
use Rattle.report_text.proofs.TextLaws.{reports_are_one}
use Rattle.report_text.proofs.laws.written_is_read.Goals as goal

pub returns : goal.returns
returns c = record {
  same = λ written read report small given. reports_are_one read written given.report given.small report small (sym given.text);
  taken = λ written line report small given. given.no_text written (record { report = report; small = small; text = refl });
}

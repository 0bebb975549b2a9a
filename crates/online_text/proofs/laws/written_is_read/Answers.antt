use Rattle.std.proofs.Common.{refl, sym}
use Rattle.online_text.proofs.OneText.{online_one}
use Rattle.online_text.proofs.laws.written_is_read.Goals as goal

pub returns : goal.returns
returns c = record {
  same = λ written read online small given. online_one read written given.online given.small online small (sym given.text);
  taken = λ written line online small given. given.no_text written (record { online = online; small = small; text = refl });
}

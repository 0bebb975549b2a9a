use Rattle.std.proofs.Common.{refl, sym}
use Rattle.live_text.proofs.OneText.{live_one}
use Rattle.live_text.proofs.laws.written_is_read.Goals as goal

pub returns : goal.returns
returns c = record {
  same = λ written read live given. live_one read written given.live live (sym given.text);
  taken = λ written line live given. given.no_text written (record { live = live; text = refl });
}

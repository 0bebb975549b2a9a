use Rattle.live_text.proofs.OneText.{live_one}
use Rattle.live_text.proofs.laws.live_texts_are_one.Goals as goal

pub returns : goal.returns
returns c = live_one

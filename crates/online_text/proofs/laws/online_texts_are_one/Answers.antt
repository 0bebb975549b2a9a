use Rattle.online_text.proofs.OneText.{online_one}
use Rattle.online_text.proofs.laws.online_texts_are_one.Goals as goal

pub returns : goal.returns
returns c = online_one

use Rattle.journal.proofs.Sound.{legal_sound}
use Rattle.journal.proofs.laws.legal_is_sound.Goals as goal

pub returns : goal.returns
returns c = legal_sound

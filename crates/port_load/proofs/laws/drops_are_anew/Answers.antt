use Rattle.port_load.proofs.LoadSums.{drops_anew}
use Rattle.port_load.proofs.laws.drops_are_anew.Goals as goal

pub returns : goal.returns
returns c = drops_anew

use Rattle.coflow_units.proofs.Sums.{apart_from_pairs}
use Rattle.port_load.proofs.LoadSums.{within_units}
use Rattle.port_load.proofs.laws.loads_are_within_units.Goals as goal

pub returns : goal.returns
returns c = λ flows coflows port distinct. within_units flows coflows port (apart_from_pairs coflows distinct)

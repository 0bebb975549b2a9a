use Rattle.release_bound.proofs.SizeLaw.{size_law}
use Rattle.release_bound.proofs.laws.released_values_fit.Goals as goal

pub returns : goal.returns
returns c = size_law

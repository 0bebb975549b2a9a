use Rattle.release_bound.proofs.OneCertificate.{one_certificate}
use Rattle.release_bound.proofs.laws.released_ordering_is_one.Goals as goal

pub returns : goal.returns
returns c = one_certificate

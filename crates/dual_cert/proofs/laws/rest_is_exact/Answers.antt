use Rattle.coflow_units.proofs.CertificateSteps.{rest_exact}
use Rattle.dual_cert.proofs.laws.rest_is_exact.Goals as goal

pub returns : goal.returns
returns c = rest_exact

use Rattle.coflow_units.proofs.Sums.{apart_from_pairs}
use Rattle.dual_cert.proofs.SizeLaws.{value_fits, unspent_fits}
use Rattle.coflow_units.specs.Certificate.{front}
use Rattle.dual_cert.proofs.laws.values_fit.Goals as goal

pub returns-clause-dual_value : goal.returns-clause-dual_value
returns-clause-dual_value c = λ i entries k certificate feasible cap. value_fits i.flows i.weight i.ports k entries (apart_from_pairs (front entries) certificate.once)
    certificate.port feasible cap

pub returns-clause-unspent : goal.returns-clause-unspent
returns-clause-unspent c = λ i entries k certificate cap. unspent_fits i.flows i.weight i.ports k entries certificate.port cap

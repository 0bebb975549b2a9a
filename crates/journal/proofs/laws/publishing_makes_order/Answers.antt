use Rattle.journal.proofs.Versions.{order_by_certificate, order_is, version_is_next}
use Rattle.journal.proofs.laws.publishing_makes_order.Goals as goal

pub returns-clause-number : goal.returns-clause-number
returns-clause-number c = version_is_next

pub returns-clause-order : goal.returns-clause-order
returns-clause-order c = order_is

pub returns-clause-certificate : goal.returns-clause-certificate
returns-clause-certificate c = order_by_certificate

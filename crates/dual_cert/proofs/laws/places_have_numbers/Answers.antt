use Rattle.dual_cert.proofs.PlaceNumbers.{used_numbered, dual_value_numbered, over_places_numbered, order_numbered}
use Rattle.dual_cert.proofs.laws.places_have_numbers.Goals as goal

pub returns-clause-used : goal.returns-clause-used
returns-clause-used c = used_numbered

pub returns-clause-dual_value : goal.returns-clause-dual_value
returns-clause-dual_value c = dual_value_numbered

pub returns-clause-over_places : goal.returns-clause-over_places
returns-clause-over_places c = over_places_numbered

pub returns-clause-order : goal.returns-clause-order
returns-clause-order c = order_numbered

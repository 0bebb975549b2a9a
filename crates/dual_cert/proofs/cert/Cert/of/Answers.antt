use Rattle.std.proofs.Common.{reverse, sym, ap, ◌∙◌}
use Rattle.coflow_units.specs.Certificate.{entry_of}
use Rattle.dual_cert.proofs.FirstPlaces.{map_reverse}
use Rattle.dual_cert.proofs.cert.Cert.of.Goals as goal

pub returns-clause-from_last : goal.returns-clause-from_last
returns-clause-from_last c = ap reverse c.in_ok-charges.ensures ∙ sym (map_reverse entry_of c.args.places.now)

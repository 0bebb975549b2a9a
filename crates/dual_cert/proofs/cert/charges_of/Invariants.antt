use Rattle.std.proofs.Common.{◌≡◌, map, take}
use Rattle.coflow_units.specs.Certificate.{entry_of}
use Rattle.dual_cert.specs.TableCertificate.{entry_at}
use Rattle.dual_cert.proofs.cert.charges_of.Given as goal

abbrev pub invariant-loop-place : goal.invariant-loop-place
invariant-loop-place l = map entry_at l.charges.items ≡ map entry_of (take l.place-index l.places)

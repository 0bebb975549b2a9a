-- the entries so far
use Rattle.std.proofs.Common.{◌≡◌, take}
use Rattle.std.specs.Prelude.{map}
use Rattle.coflow_units.specs.Certificate.{entry_of}
use Rattle.cert_check.proofs.CertificateOf.{entries_with}
use Rattle.cert_check.proofs.certificate.cert_of.Given as goal

abbrev pub invariant-loop-index : goal.invariant-loop-index
invariant-loop-index l = map entry_of l.places.items ≡ entries_with (take l.index l.coflows) (take l.index l.lines)

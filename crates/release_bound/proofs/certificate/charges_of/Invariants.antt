use Rattle.std.proofs.Common.{◌≡◌, length, map, take}
use Rattle.release_bound.specs.ReleaseTable.{charge_of}
use Rattle.release_bound.proofs.certificate.charges_of.Given as goal

abbrev pub invariant-loop-place : goal.invariant-loop-place
invariant-loop-place l = record {
  len : length l.charges ≡ 4096;
  written : take l.place l.charges ≡ map charge_of (take l.place l.places);
}

-- the completions so far
use Rattle.std.proofs.Common.{◌≡◌, take}
use Rattle.cert_check.specs.Places.{ends_in}
use Rattle.cert_check.proofs.stated.ends_of.Given as goal

abbrev pub invariant-loop-place : goal.invariant-loop-place
invariant-loop-place l = l.ends.items ≡ ends_in (take l.place-index l.places)

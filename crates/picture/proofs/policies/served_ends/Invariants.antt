-- the slots so far that are not 0
use Rattle.std.proofs.Common.{◌≡◌, take}
use Rattle.picture.specs.Policies.{served_ends}
use Rattle.picture.proofs.policies.served_ends.Given as goal

abbrev pub invariant-loop-end : goal.invariant-loop-end
invariant-loop-end l = l.served.items ≡ served_ends (take l.end-index l.ends)

-- the power so far
use Rattle.std.proofs.Common.{◌≡◌, ◌^◌}
use Rattle.picture.proofs.policies_curves.power_of_ten.Given as goal

abbrev pub invariant-loop : goal.invariant-loop
invariant-loop l = l.number ≡ 10 ^ l.counter

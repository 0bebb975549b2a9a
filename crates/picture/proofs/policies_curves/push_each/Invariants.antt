-- the curves so far stand behind the text
use Rattle.std.proofs.Common.{◌≡◌, ◌++◌, take}
use Rattle.picture.specs.PoliciesSvg.{each_policy, policy_curve}
use Rattle.picture.proofs.policies_curves.push_each.Given as goal

abbrev pub invariant-loop-place : goal.invariant-loop-place
invariant-loop-place l = l.text.items ≡ l.fn.text.items ++ each_policy (policy_curve l.picture) 0 (take l.place l.policies)

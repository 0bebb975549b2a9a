-- the greatest cost so far
use Rattle.std.proofs.Common.{take}
use Rattle.picture.specs.Policies.{costs_of}
use Rattle.picture.proofs.PolicySteps.{IsMostOf}
use Rattle.picture.proofs.policies.most_of.Given as goal

abbrev pub invariant-loop-policy : goal.invariant-loop-policy
invariant-loop-policy l = IsMostOf (costs_of (take l.policy-index l.policies)) l.most

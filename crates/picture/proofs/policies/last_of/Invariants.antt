-- the last slot so far
use Rattle.std.proofs.Common.{take}
use Rattle.picture.specs.Policies.{step_slots}
use Rattle.picture.proofs.PolicySteps.{IsMostOf}
use Rattle.picture.proofs.policies.last_of.Given as goal

abbrev pub invariant-loop-policy : goal.invariant-loop-policy
invariant-loop-policy l = IsMostOf (step_slots (take l.policy-index l.policies)) l.last

-- the steps of the slots so far
use Rattle.picture.proofs.CurveSteps.{CurveSoFar}
use Rattle.picture.proofs.curve.steps_of.Given as goal

abbrev pub invariant-loop-place : goal.invariant-loop-place
invariant-loop-place l = CurveSoFar l.ends l.place l.steps.items

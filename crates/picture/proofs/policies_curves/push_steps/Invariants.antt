-- the steps so far stand behind the text
use Rattle.std.proofs.Common.{◌≡◌, ◌++◌, take}
use Rattle.std.specs.List.{flat_map}
use Rattle.picture.specs.PoliciesSvg.{policy_step}
use Rattle.picture.proofs.policies_curves.push_steps.Given as goal

abbrev pub invariant-loop-step : goal.invariant-loop-step
invariant-loop-step l = l.text.items ≡ l.fn.text.items ++ flat_map (policy_step l.picture) (take l.step-index l.steps)

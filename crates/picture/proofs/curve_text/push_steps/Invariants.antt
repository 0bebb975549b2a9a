-- the steps so far stand behind the text
use Rattle.std.proofs.Common.{◌≡◌, ◌++◌, take}
use Rattle.std.specs.List.{flat_map}
use Rattle.picture.specs.Svg.{step_text}
use Rattle.picture.proofs.curve_text.push_steps.Given as goal

abbrev pub invariant-loop-step : goal.invariant-loop-step
invariant-loop-step l = l.text.items ≡ l.fn.text.items ++ flat_map (step_text l.picture) (take l.step-index l.step-items)

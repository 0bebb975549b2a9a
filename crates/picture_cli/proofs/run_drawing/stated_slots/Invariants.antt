-- the slots of the lines so far
use Rattle.std.proofs.Common.{◌≡◌, map, take}
use Rattle.online_text.specs.declared.value.DoneLine.{DoneLine}
use Rattle.picture_cli.proofs.run_drawing.stated_slots.Given as goal

abbrev pub invariant-loop-line : goal.invariant-loop-line
invariant-loop-line l = l.slots.items ≡ map (λ (d : DoneLine). d.slot) (take l.line-index l.lines)

-- the lines so far stand behind the text
use Rattle.std.proofs.Common.{◌≡◌, ◌++◌, take}
use Rattle.std.specs.List.{flat_map}
use Rattle.picture.specs.RunSvg.{tick_text}
use Rattle.picture.proofs.run_writing.push_lines.Given as goal

abbrev pub invariant-loop-time : goal.invariant-loop-time
invariant-loop-time l = l.text.items ≡ l.fn.text.items ++ flat_map (tick_text l.picture) (take l.time-index l.time-items)

-- what stands on the bars so far stands behind the text
use Rattle.std.proofs.Common.{◌≡◌, ◌++◌, take}
use Rattle.std.specs.List.{flat_map}
use Rattle.picture.specs.Marks.{mark_text}
use Rattle.picture.proofs.marks.push_row.Given as goal

abbrev pub invariant-loop-bar : goal.invariant-loop-bar
invariant-loop-bar l = l.text.items ≡ l.fn.text.items ++ flat_map (mark_text l.picture l.port) (take l.bar-index l.bar-items)

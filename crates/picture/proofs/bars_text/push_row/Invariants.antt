-- the bars so far stand behind the text
use Rattle.std.proofs.Common.{◌≡◌, ◌++◌, take}
use Rattle.std.specs.List.{flat_map}
use Rattle.picture.specs.Svg.{bar_text}
use Rattle.picture.proofs.bars_text.push_row.Given as goal

abbrev pub invariant-loop-bar : goal.invariant-loop-bar
invariant-loop-bar l = l.text.items ≡ l.fn.text.items ++ flat_map (bar_text l.picture l.port) (take l.bar-index l.bar-items)

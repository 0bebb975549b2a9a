-- the lines so far stand behind the text
use Rattle.std.proofs.Common.{◌≡◌, ◌++◌, take}
use Rattle.coflow_units.specs.Text.{text_of}
use Rattle.live_text.specs.Text.{numbered, order_line}
use Rattle.live_text.proofs.writing.push_orders.Given as goal

abbrev pub invariant-loop-index : goal.invariant-loop-index
invariant-loop-index l = l.text.items ≡ l.fn.text.items ++ text_of (numbered order_line 1 (take l.index l.orders))

-- the lines so far stand behind the text
use Rattle.std.proofs.Common.{◌≡◌, ◌++◌, take}
use Rattle.std.specs.List.{flat_map}
use Rattle.coflow_units.specs.Text.{text_of}
use Rattle.online_text.specs.Text.{epoch_lines}
use Rattle.online_text.proofs.writing.push_epochs.Given as goal

abbrev pub invariant-loop-epoch : goal.invariant-loop-epoch
invariant-loop-epoch l = l.text.items ≡ l.fn.text.items ++ text_of (flat_map epoch_lines (take l.epoch-index l.epochs))

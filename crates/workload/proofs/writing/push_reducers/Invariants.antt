-- the reducers so far stand behind their number
use Rattle.std.proofs.Common.{◌≡◌, ◌++◌, length, take}
use Rattle.std.specs.List.{flat_map}
use Rattle.workload.specs.Text.{reducer_word}
use Rattle.coflow_units.specs.Text.{spaced}
use Rattle.workload.proofs.writing.push_reducers.Given as goal

abbrev pub invariant-loop-reducer : goal.invariant-loop-reducer
invariant-loop-reducer l = l.text.items ≡ l.fn.text.items ++ (spaced (length l.reducers) ++ flat_map reducer_word (take l.reducer-index l.reducers))

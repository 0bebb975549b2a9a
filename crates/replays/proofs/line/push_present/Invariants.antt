-- the coflows so far that are present are appended
use Rattle.std.proofs.Common.{◌≡◌, ◌++◌, take}
use Rattle.std.specs.Prelude.{filter}
use Rattle.epochs.specs.Course.{is_marked}
use Rattle.replays.proofs.line.push_present.Given as goal

abbrev pub invariant-loop-coflow : goal.invariant-loop-coflow
invariant-loop-coflow l = l.line.items ≡ l.fn.line.items ++ filter (is_marked l.present) (take l.coflow-index l.order)

-- the lines so far are those of their coflows
use Rattle.std.proofs.Common.{ℕ, ◌<◌}
use Rattle.online_check.specs.Done.{IsListed, ids_done}
use Rattle.online_check.proofs.ends.first_unlisted.Given as goal

abbrev pub invariant-loop-coflow : goal.invariant-loop-coflow
invariant-loop-coflow l = (k : ℕ) → k < l.coflow → IsListed l.table.ids (ids_done l.done) k

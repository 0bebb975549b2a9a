-- the completions so far are right
use Rattle.std.proofs.Common.{◌≡◌, ◌<◌, ℕ, slice_index}
use Rattle.online_check.specs.Done.{slots_done}
use Rattle.online_check.proofs.ends.first_wrong_end.Given as goal

abbrev pub invariant-loop-coflow : goal.invariant-loop-coflow
invariant-loop-coflow l = (c : ℕ) → c < l.coflow → slice_index (slots_done l.done) c ≡ slice_index l.ends c

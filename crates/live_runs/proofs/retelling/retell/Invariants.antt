-- the entries so far are told
use Rattle.live_runs.proofs.FollowingEntries.{RetoldSoFar}
use Rattle.live_runs.proofs.retelling.retell.Given as goal

abbrev pub invariant-loop-entry : goal.invariant-loop-entry
invariant-loop-entry l = RetoldSoFar l.fn.master.opening l.master.opening l.journal l.master.journal l.entry-index l.retold

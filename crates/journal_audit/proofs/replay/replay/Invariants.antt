-- the entries so far are answered as stated
use Rattle.journal_audit.proofs.ReplaySteps.{AnsweredSoFar}
use Rattle.journal_audit.proofs.replay.replay.Given as goal

abbrev pub invariant-loop-index : goal.invariant-loop-index
invariant-loop-index l = AnsweredSoFar l.fn.master.opening l.entries l.orders l.index l.master.opening l.master.journal l.replayed

-- the least coflow so far that has not come
use Rattle.std.proofs.Common.{length, slice_index, take}
use Rattle.online_check.proofs.WaitingSteps.{LeastWaiting}
use Rattle.online_check.proofs.early.least_waiting.Given as goal

abbrev pub invariant-loop-flow : goal.invariant-loop-flow
invariant-loop-flow l = LeastWaiting l.flows (slice_index l.arrivals) l.gone (take l.flow-index l.numbers) (length l.arrivals) l.least

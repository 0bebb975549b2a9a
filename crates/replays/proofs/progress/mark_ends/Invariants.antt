-- the coflows of the flows so far have the slot as their end
use Rattle.std.proofs.Common.{◌≡◌, ℕ, ◌<◌, cond, get_or, length, take}
use Rattle.coflow_units.specs.Completion.{holds_coflow}
use Rattle.replays.proofs.progress.mark_ends.Given as goal

abbrev pub invariant-loop-flow : goal.invariant-loop-flow
invariant-loop-flow l = (k : ℕ) → k < length l.ends → get_or l.ends k 0 ≡ cond (holds_coflow l.flows (take l.flow-index l.numbers) k) l.slot (get_or l.fn.ends k 0)

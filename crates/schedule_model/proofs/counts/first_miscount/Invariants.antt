-- the flows so far have as many units as the counts say
use Rattle.std.proofs.Common.{◌≡◌, ℕ, ◌<◌, get_or}
use Rattle.coflow_units.specs.Flows.{units_of}
use Rattle.schedule_model.proofs.counts.first_miscount.Given as goal

abbrev pub invariant-loop-number : goal.invariant-loop-number
invariant-loop-number l = (f : ℕ) → f < l.number → get_or l.counts f 0 ≡ units_of l.flows f

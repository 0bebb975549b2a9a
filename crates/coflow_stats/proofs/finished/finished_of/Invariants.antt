-- the coflows so far
use Rattle.std.proofs.Common.{◌≡◌, ℕ, ◌<◌, get_or, length, slice_index}
use Rattle.schedule_model.specs.RunList.{slots_in}
use Rattle.coflow_stats.specs.declared.value.Finished.{Finished}
use Rattle.coflow_stats.specs.Finished.{IsFinished}
use Rattle.coflow_stats.proofs.finished.finished_of.Given as goal

abbrev pub invariant-loop-coflow : goal.invariant-loop-coflow
invariant-loop-coflow l = record {
  count : length l.coflows.items ≡ l.coflow;
  each_is : (c : ℕ) (d : Finished) → c < l.coflow →
      IsFinished l.table l.weights (slice_index l.arrivals) (slots_in l.runs) c (get_or l.coflows.items c d);
}

-- what is kept is that of a moment of the replay
use Rattle.std.proofs.Common.{◌≡◌, length}
use Rattle.std.specs.Prelude.{is_some}
use Rattle.replays.specs.Kept.{Reaches, input_of}
use Rattle.replays.proofs.Reaching.{kept_remaining}
use Rattle.replays.proofs.replaying.serve.Given as goal

abbrev pub invariant-actions : goal.invariant-actions
invariant-actions g l = record {
  reaches : Reaches (input_of l.table l.weights l.fn.course) ((goal.Ranker-dyn g (l.fn.ranker.vtable, l.fn.ranker.value)).meaning l.fn.ranker.value) l.course l.kept
      ((goal.Ranker-dyn g (l.ranker.vtable, l.ranker.value)).meaning l.ranker.value);
  recorded : is_some l.kept.recording ≡ is_some l.fn.kept.recording;
}

abbrev pub decreases-actions : goal.decreases-actions
decreases-actions g l = kept_remaining (length l.table.ids) (length l.table.flows) l.course l.kept

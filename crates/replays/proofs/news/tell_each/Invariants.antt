-- the notes that are left give what all notes give
use Rattle.std.proofs.Common.{◌≡◌, drop}
use Rattle.std.specs.Prelude.{filter}
use Rattle.rankers.specs.ByKey.{key_in}
use Rattle.rankers.specs.Meaning.{after_notes}
use Rattle.replays.specs.Kept.{is_untold}
use Rattle.replays.proofs.news.tell_each.Given as goal

abbrev pub invariant-loop-coflow : goal.invariant-loop-coflow
invariant-loop-coflow g l =
    after_notes ((goal.Ranker-dyn g (l.ranker.vtable, l.ranker.value)).meaning l.ranker.value) (key_in l.progress.ends.items)
    (filter (is_untold l.marks l.progress) (drop l.coflow-index l.order))
    ≡ after_notes ((goal.Ranker-dyn g (l.fn.ranker.vtable, l.fn.ranker.value)).meaning l.fn.ranker.value) (key_in l.progress.ends.items)
    (filter (is_untold l.marks l.progress) l.order)

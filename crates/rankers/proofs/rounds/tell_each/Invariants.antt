-- the notes that are left give what all notes give
use Rattle.std.proofs.Common.{◌≡◌, drop}
use Rattle.rankers.specs.ByKey.{key_in}
use Rattle.rankers.specs.Meaning.{after_notes}
use Rattle.rankers.proofs.rounds.tell_each.Given as goal

abbrev pub invariant-loop-coflow : goal.invariant-loop-coflow
invariant-loop-coflow g l =
    after_notes ((goal.Ranker-dyn g (l.ranker.vtable, l.ranker.value)).meaning l.ranker.value) (key_in l.ends) (drop l.coflow-index l.order)
    ≡ after_notes ((goal.Ranker-dyn g (l.fn.ranker.vtable, l.fn.ranker.value)).meaning l.fn.ranker.value) (key_in l.ends) l.order

use Rattle.std.proofs.Common.{◌≡◌, length}
use Rattle.hall_tests.proofs.ranks.publish_many.Given as goal

abbrev pub invariant-loop-before : goal.invariant-loop-before
invariant-loop-before l =
    (l.publisher.table ≡ l.initial.publisher.table) × (length l.publisher.published ≡ l.before)

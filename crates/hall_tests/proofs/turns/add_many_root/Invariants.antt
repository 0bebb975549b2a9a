use Rattle.std.proofs.Common.{◌≡◌, false}
use Rattle.hall_tests.proofs.turns.add_many_root.Given as goal

abbrev pub invariant-loop-number : goal.invariant-loop-number
invariant-loop-number g l = (l.root.table ≡ l.initial.root.table) × (l.root.in_turn ≡ false) × (l.root.made ≡ l.initial.root.made) × (l.root.back ≡ l.initial.root.back)

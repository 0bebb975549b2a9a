use Rattle.std.proofs.Common.{◌≡◌, ◌≤◌, take}
use Rattle.std.specs.Prelude.{count_by}
use Rattle.bssi_order.proofs.bssi.count_present.Given as goal

abbrev pub invariant-loop-here : goal.invariant-loop-here
invariant-loop-here l = record {
  count : l.count ≡ count_by (λ here. here) (take l.here-index l.present);
  within : l.count ≤ l.here-index;
}

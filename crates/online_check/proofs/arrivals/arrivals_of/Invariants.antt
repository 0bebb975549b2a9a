-- the arrivals so far
use Rattle.std.proofs.Common.{◌≡◌, ◌≤◌, map, take}
use Rattle.std.specs.Prelude.{All}
use Rattle.coflow_units.specs.declared.limits.TheConstants.{MAX_ARRIVAL}
use Rattle.online_check.specs.Arrivals.{arrival_slot}
use Rattle.online_check.proofs.arrivals.arrivals_of.Given as goal

abbrev pub invariant-loop-coflow : goal.invariant-loop-coflow
invariant-loop-coflow l =
    (l.arrivals.items ≡ map (arrival_slot l.slot_ms) (take l.coflow l.table.arrivals)) × All (λ a. a ≤ MAX_ARRIVAL) l.arrivals.items

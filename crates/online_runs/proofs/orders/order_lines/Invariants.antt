use Rattle.std.proofs.Common.{◌≡◌, take}
use Rattle.std.specs.Prelude.{map}
use Rattle.coflow_units.specs.declared.plan.Place.{Place}
use Rattle.coflow_units.specs.Certificate.{entry_of}
use Rattle.online_runs.specs.Value.{place_line}
use Rattle.online_runs.proofs.orders.order_lines.Given as goal

abbrev pub invariant-loop-place : goal.invariant-loop-place
invariant-loop-place l = l.lines.items ≡ map (λ (x : Place). place_line l.table.ids (entry_of x)) (take l.place-index l.places)

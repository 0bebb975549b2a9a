-- The total of one coflow on one port stays within the sum of all units.
use Rattle.std.proofs.Common.{ℕ, ◌+◌, ◌≤◌, ◌<◌, List, length, take, get_or}
use Rattle.std.specs.Prelude.{if◌then◌else◌, sum_by}
use Rattle.std.proofs.lemmas.List.Sums.{sum_by_more_le_part}
use Rattle.coflow_units.specs.declared.fabric.Flow.{Flow}
use Rattle.coflow_units.specs.declared.fabric.Port.{Port}
use Rattle.coflow_units.specs.Load.{load, loads}
use Rattle.coflow_units.proofs.Bools.{part}

pub next_load_fits : (flows : List Flow) (coflow : ℕ) (port : Port) (k : ℕ) (d : Flow) → k < length flows →
    load (take k flows) coflow port + (get_or flows k d).units ≤ sum_by (λ (x : Flow). x.units) flows
next_load_fits flows coflow port k d lt =
    sum_by_more_le_part (λ (x : Flow). if loads coflow port x then x.units else 0) (λ (x : Flow). x.units) flows k d lt (λ x. part (loads coflow port x) x.units)

-- The egress ports to which a coflow sends.
use Rattle.std.specs.Prelude.{◌≡◌, ◌≢◌, ℕ, ◌+◌, ◌-◌, ◌*◌, ◌/◌, ◌^◌, ◌<◌, ◌≤◌, ◌==◌, List, All, drop, if◌then◌else◌}
use Rattle.std.specs.Prelude.{length, sum_by, take}
use Rattle.coflow_units.specs.declared.limits.TheConstants.{MAX_MEGABYTES}
use Rattle.std.specs.List.{slice_index_or}
use Rattle.coflow_units.specs.declared.trace.CoflowLine.{CoflowLine}
use Rattle.coflow_units.specs.declared.trace.Reducer.{Reducer}
use Rattle.flow_table.specs.declared.spots.Spot.{Spot}
use Rattle.flow_table.specs.declared.targets.Target.{Target}
use Rattle.flow_table.specs.Units.{units_of_reducer}
use Rattle.flow_table.specs.Spots.{IsAscending, pairs, spots_at}

-- what each mapper of a coflow sends to an egress before the rests are shared
abbrev pub whole_to : ℕ → CoflowLine → ℕ → ℕ
whole_to unit x egress = sum_by
    (λ (r : Reducer). if r.location == egress then units_of_reducer unit r / length x.mappers else 0) x.reducers

-- the part of the rests from the first one of a target to its end
abbrev pub own_rests : List Spot → Target → List Spot
own_rests rests t = take (t.end - t.first) (drop t.first rests)

-- Targets ascend by egress. The part of each has the rests at its egress, which ascend.
pub record AreTargets (rests : List Spot) (targets : List Target) : Type 0 where
  pub ascending : (t : ℕ) (d : Target) → t + 1 < length targets →
      (slice_index_or targets t d).egress < (slice_index_or targets (t + 1) d).egress
  pub ranges : All (λ (t : Target). (t.first ≤ t.end) × (t.end ≤ length rests)) targets
  pub own : All (λ (t : Target). own_rests rests t ≡ spots_at rests t.egress) targets
  pub numbers : All (λ (t : Target). IsAscending (spots_at rests t.egress)) targets
  pub wholes : All (λ (t : Target). t.whole ≤ MAX_MEGABYTES) targets

-- the mappers at the places send so many units to each egress: to each target their wholes, and a unit for each of its
-- rests that a place comes below
pub record SendsTo (row : ℕ → ℕ) (places : List Spot) (targets : List Target) (rests : List Spot) : Type 0 where
  pub to : All (λ (t : Target). row t.egress ≡ t.whole * length places + pairs places (spots_at rests t.egress)) targets
  pub elsewhere : (egress : ℕ) → All (λ (t : Target). t.egress ≢ egress) targets → row egress ≡ 0

-- The flows of the row, computed.
use Rattle.std.proofs.Common.{◌≡◌, ℕ, ◌+◌, ◌<◌, ◌≤◌, Bool, true, false, inl, inr, refl, arith, zero, suc, true≢false, ne_eqb}
use Rattle.std.specs.Prelude.{◌==◌, ◌&&◌, if◌then◌else◌}
use Rattle.std.specs.List.{slice_index_or}
use Rattle.std.proofs.lemmas.List.Elements.{All-from_recursion}
use Rattle.coflow_units.specs.declared.fabric.Flow.{Flow}
use Rattle.coflow_units.specs.Flows.{FlowBefore}
use Rattle.flow_table.specs.FlowsOf.{units_between}
use Rattle.flow_table.specs.Rows.{TwoMappers, two_mappers, two_mappers_flows}
use Rattle.flow_table.specs.Sent.{sent}

by_tests : (a b e : Bool) → (0 + (if a && e then 2 else 0)) + (if b && e then 1 else 0) ≡ 0 + (if e then (0 + (if a then 2 else 0)) + (if b then 1 else 0) else 0)
by_tests true true true = refl
by_tests true true false = refl
by_tests true false true = refl
by_tests true false false = refl
by_tests false true true = refl
by_tests false true false = refl
by_tests false false true = refl
by_tests false false false = refl

nothing : (b x y : Bool) → b ≡ false → (0 + (if b && x then 2 else 0)) + (if b && y then 1 else 0) ≡ 0
nothing true x y e = absurd (true≢false e)
nothing false x y e = refl

two_sent : (c i e : ℕ) → units_between two_mappers_flows c i e ≡ sent two_mappers 1 c i e
two_sent zero i e = by_tests (0 == i) (2 == i) (1 == e)
two_sent (suc c) i e = nothing (0 == suc c) ((0 == i) && (1 == e)) ((2 == i) && (1 == e)) (ne_eqb 0 (suc c) (λ x. omega (arith, x)))

two_in_order : (k : ℕ) (d : Flow) → k + 1 < 2 → FlowBefore (slice_index_or two_mappers_flows k d) (slice_index_or two_mappers_flows (k + 1) d)
two_in_order zero d lt = inr (refl, inl (omega arith))
two_in_order (suc k) d lt = absurd (omega (arith, lt))

pub two_mappers_row : TwoMappers
two_mappers_row = record {
  units = refl;
  first = refl;
  second = refl;
  flows = record {
    sorted = two_in_order;
    units = All-from_recursion (λ (x : Flow). 1 ≤ x.units) two_mappers_flows (omega arith, (omega arith, tt));
    sent = two_sent;
  };
}

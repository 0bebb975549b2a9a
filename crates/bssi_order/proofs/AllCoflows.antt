-- The instance of all coflows, as the order's program sees it.
use Rattle.std.proofs.Common.{◌≡◌, ℕ, Bool, true, false, List, length, get_or, refl, sym, ap, ◌∙◌, arith}
use Rattle.std.specs.Prelude.{filter, replicate, slice_index}
use Rattle.std.specs.List.{range_with_len}
use Rattle.std.proofs.lemmas.List.{get_or-replicate, length-replicate}
use Rattle.coflow_units.specs.declared.fabric.Flow.{Flow}
use Rattle.coflow_units.proofs.Lists.{filter_all, number_below}
use Rattle.port_load.specs.LoadTable.{HasLoads, LoadTable, is_present}
use Rattle.bssi_order.specs.Order.{IsOf, present_coflows}

all_present : (n : ℕ) (present : List Bool) → present ≡ replicate n true → present_coflows present ≡ range_with_len 0 n
all_present n present e =
    let count : length present ≡ n = ap (λ xs. length xs) e ∙ length-replicate n true in
    ap (λ k. filter (is_present present) (range_with_len 0 k)) count
    ∙ filter_all (is_present present) (range_with_len 0 n) (λ c has. ap (λ xs. get_or xs c false) e ∙ get_or-replicate n c true false (omega (arith, number_below 0 n c has)))

-- the first n coflows, all of them present
pub all_coflows : (n ports : ℕ) (flows : List Flow) (weights : List ℕ) (t : LoadTable) (present lent : List Bool) → lent ≡ present → present ≡ replicate n true →
    t.coflows ≡ n → t.ports ≡ ports → HasLoads flows t →
    IsOf (record { coflows = range_with_len 0 n; weight = λ c. slice_index weights c; ports = ports; flows = flows }) t weights lent
all_coflows n ports flows weights t present lent l e count wide loads = record {
  coflows = sym (all_present n lent (l ∙ e));
  ports = sym wide;
  weight = λ c has. refl;
  load = λ c port has in'. loads c port (omega (arith, count, number_below 0 n c has)) (omega (arith, wide, in'));
}

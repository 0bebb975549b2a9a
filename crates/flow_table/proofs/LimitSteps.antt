-- A trace exceeds one limit at most, and none where it has a table.
use Rattle.std.proofs.Common.{◌≡◌, ℕ, ◌^◌, ◌<◌, ◌≤◌, inl, inr, length, sym, ◌∙◌, arith}
use Rattle.coflow_units.specs.declared.quantity.Quantity.{Quantity}
use Rattle.coflow_units.specs.declared.trace.Trace.{Trace}
use Rattle.flow_table.specs.Causes.{ExceedsLimit}
use Rattle.flow_table.specs.Table.{IsTable, IsTableOf, TableFacts}
use Rattle.flow_table.specs.Units.{units_in_all}

pub one_limit : (t : Trace) (unit : ℕ) (which other : Quantity) (count more : ℕ) → ExceedsLimit t unit which count → ExceedsLimit t unit other more →
    (which ≡ other) × (count ≡ more)
one_limit t unit which other count more (inl (a, (units, c))) (inl (b, (units', d))) = (a ∙ sym b, c ∙ sym d)
one_limit t unit which other count more (inl (a, (units, c))) (inr (b, (few, d, flows))) = absurd (omega (arith, units, few))
one_limit t unit which other count more (inr (a, (few, c, flows))) (inl (b, (units, d))) = absurd (omega (arith, units, few))
one_limit t unit which other count more (inr (a, (few, c, flows))) (inr (b, (few', d, flows'))) = (a ∙ sym b, c ∙ sym d)

pub within_limits : (t : Trace) (unit : ℕ) (table : TableFacts) → units_in_all t unit ≤ 2 ^ 40 → IsTableOf t unit table → IsTable table → (which : Quantity) (count : ℕ) →
    ExceedsLimit t unit which count → ⊥
within_limits t unit table few of is which count (inl (a, (units, c))) = omega (arith, units, few)
within_limits t unit table few of is which count (inr (a, (few', c, many))) = omega (arith, many table.flows of.flows, is.few_flows)

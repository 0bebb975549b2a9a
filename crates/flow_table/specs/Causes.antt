-- Why a trace has no table.
use Rattle.std.specs.Prelude.{◌≡◌, ℕ, ◌-◌, ◌<◌, ◌≤◌, ◌⊎◌, ◌^◌, Result, Ok, Err, min}
use Rattle.coflow_units.specs.declared.limits.TheConstants.{MAX_UNITS}
use Rattle.coflow_units.specs.declared.quantity.Quantity.{Quantity}
use Rattle.coflow_units.specs.declared.quantity.Quantity.TheVariants.{Units, Flows}
use Rattle.coflow_units.specs.declared.trace.Trace.{Trace}
use Rattle.flow_table.specs.declared.fault.TableFault.{TableFault}
use Rattle.flow_table.specs.declared.fault.TableFault.TheVariants.{Limit, NoMemory}
use Rattle.flow_table.specs.Units.{units_in_all}
use Rattle.flow_table.specs.FlowsOf.{IsTooMany}
use Rattle.flow_table.specs.Sent.{sent}
use Rattle.flow_table.specs.Table.{TableFacts}

-- there are more than 2^40 units; their count is told as 2^64 - 1 where it is greater
abbrev pub HasTooManyUnits : Trace → ℕ → ℕ → Type 0
HasTooManyUnits t unit count = (MAX_UNITS < units_in_all t unit) × (count ≡ min (units_in_all t unit) (2 ^ 64 - 1))

-- there are no more than 2^40 units, and more than 2^20 flows; their count is told as one more than 2^20
abbrev pub HasTooManyFlows : Trace → ℕ → ℕ → Type 0
HasTooManyFlows t unit count = (units_in_all t unit ≤ MAX_UNITS) × (count ≡ 1048577) × IsTooMany (sent t unit)

-- there is more of this quantity than a table may have, and its count is told so
abbrev pub ExceedsLimit : Trace → ℕ → Quantity → ℕ → Type 0
ExceedsLimit t unit which count =
    ((which ≡ Units) × HasTooManyUnits t unit count)
    ⊎ ((which ≡ Flows) × HasTooManyFlows t unit count)

-- each fault has its cause in the trace and the unit; want of memory is free
abbrev pub HasCause : Trace → ℕ → TableFault → Type 0
HasCause t unit (Limit which count) = ExceedsLimit t unit which count
HasCause t unit NoMemory = Unit {0}

-- Limit comes exactly where the trace has more of a quantity than a table may have; want of memory is free
abbrev pub IsLimitExactly : Trace → ℕ → Result TableFacts TableFault → Type 0
IsLimitExactly t unit (Ok table) = (which : Quantity) (count : ℕ) → ExceedsLimit t unit which count → ⊥
IsLimitExactly t unit (Err (Limit which count)) = ExceedsLimit t unit which count
IsLimitExactly t unit (Err NoMemory) = Unit {0}

-- Why a text gives no table.
use Rattle.std.specs.Prelude.{◌≡◌, ℕ, ◌<◌, List, Err, length}
use Rattle.coflow_units.specs.declared.limits.TheConstants.{MAX_TEXT}
use Rattle.flow_table.specs.Causes.{HasCause}
use Rattle.trace_reader.specs.Checks.{Answers}
use Rattle.trace_reader.specs.Trace.{trace_checks, trace_of}
use Rattle.test_support.specs.declared.fault.TextFault.{TextFault}
use Rattle.test_support.specs.declared.fault.TextFault.TheVariants as text_fault

-- The text is too long, or it is no trace and this is its first fault, or its trace makes no table with units of so many
-- megabytes.
abbrev pub HasNoTable : List ℕ → ℕ → TextFault → Type 0
HasNoTable text unit text_fault.TooLong = MAX_TEXT < length text
HasNoTable text unit (text_fault.Trace fault) = Answers (trace_checks text) (λ t. t ≡ trace_of text) (Err fault)
HasNoTable text unit (text_fault.Table fault) = HasCause (trace_of text) unit fault

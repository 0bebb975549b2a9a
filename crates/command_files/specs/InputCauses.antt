-- Why trace and weights gave no table. They are looked at in this order: the trace, the weights, the table.
use Rattle.std.specs.Prelude.{ℕ, List, Option, IfSome}
use Rattle.coflow_units.specs.declared.quantity.Quantity.{Quantity}
use Rattle.flow_table.specs.declared.fault.TableFault.TheVariants as table_fault
use Rattle.flow_table.specs.Causes.{HasCause}
use Rattle.flow_table.specs.Table.{TableFacts}
use Rattle.outside.specs.Shelf.{Told, bytes_of}
use Rattle.trace_reader.specs.Trace.{trace_of}
use Rattle.weights.specs.declared.fault.WeightsFault.{WeightsFault}
use Rattle.command_files.specs.declared.status.Status.{Status}
use Rattle.command_files.specs.declared.status.Status.TheVariants.{BadTrace, BadWeights, Limit, NoMemory, ReadFault}
use Rattle.command_files.specs.FileCauses.{NameFailed, NameFailedIf, ShelfFailed}
use Rattle.command_files.specs.Inputs.{GiveWeights, Gives, IsTraceText, bytes_if}
use Rattle.command_files.specs.Limits.{EachMayLimit}
use Rattle.command_files.specs.TraceCauses.{HasTraceFault, IsTraceForm, TraceLimit}
use Rattle.command_files.specs.WeightsCauses.{IsFaultOf, IsWeightsForm, WeightsLimit}

-- the trace has no fault, and this is the first fault of its weights
abbrev pub HasWeightsFault : List ℕ → Option (List ℕ) → WeightsFault → Type 0
HasWeightsFault trace weights fault = IsTraceText trace × IsFaultOf weights (trace_of trace).coflows fault

-- A quantity is outside its range, and nothing that is looked at before it is wrong:
-- one of the trace, one of the weights, or one that the table counts.
pub data LimitCause (trace : List ℕ) (weights : Option (List ℕ)) (unit : ℕ) (which : Quantity) (count : ℕ) :
    Type 0 where
  in_trace : TraceLimit trace which count → LimitCause trace weights unit which count
  in_weights : IsTraceText trace → WeightsLimit weights (trace_of trace).coflows which count →
      LimitCause trace weights unit which count
  in_table : IsTraceText trace → (ws : List ℕ) → GiveWeights weights (trace_of trace).coflows ws →
      HasCause (trace_of trace) unit (table_fault.Limit which count) → LimitCause trace weights unit which count

-- The trace and the weights have no fault, and with the unit they give a table:
-- no quantity that the table counts is outside its range.
pub record GiveTable (trace : List ℕ) (weights : Option (List ℕ)) (unit : ℕ) : Type 0 where
  pub table : TableFacts
  pub list : List ℕ
  pub gives : Gives trace weights unit table list
  pub fits : (which : Quantity) (count : ℕ) → HasCause (trace_of trace) unit (table_fault.Limit which count) → ⊥

-- The file whose reading failed: the trace, or the weights where the trace has no fault.
pub data InputFailed (trace : List ℕ) (weights : Option (List ℕ)) (old new : Told) : Type 0 where
  at_trace : NameFailed trace old new → InputFailed trace weights old new
  at_weights : IsTraceText (bytes_of old trace) → NameFailedIf weights old new → InputFailed trace weights old new

-- The cause of a status that says why trace and weights gave no table.
-- The shelf had and has these counts of faults, and told and tells these files.
abbrev pub HasInputCause : ℕ → ℕ → Option Told → Option Told → List ℕ → Option (List ℕ) → ℕ → Status → Type 0
HasInputCause before now old new trace weights unit (BadTrace fault) =
    IsTraceForm fault × IfSome old (λ t. HasTraceFault (bytes_of t trace) fault)
HasInputCause before now old new trace weights unit (BadWeights fault) =
    IsWeightsForm fault × IfSome old (λ t. HasWeightsFault (bytes_of t trace) (bytes_if t weights) fault)
HasInputCause before now old new trace weights unit (Limit which count) =
    EachMayLimit which × IfSome old (λ t. LimitCause (bytes_of t trace) (bytes_if t weights) unit which count)
HasInputCause before now old new trace weights unit (ReadFault count) =
    ShelfFailed before now old new (InputFailed trace weights) count
HasInputCause before now old new trace weights unit NoMemory = Unit {0}
HasInputCause before now old new trace weights unit status = ⊥

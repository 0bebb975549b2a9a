-- The status that says a fault.
use Rattle.std.specs.Prelude.{◌≡◌}
use Rattle.flow_table.specs.declared.fault.TableFault.{TableFault}
use Rattle.flow_table.specs.declared.fault.TableFault.TheVariants as table_fault
use Rattle.hall_plan.specs.declared.answer.PlanFault.{PlanFault}
use Rattle.hall_plan.specs.declared.answer.PlanFault.TheVariants as plan_fault
use Rattle.orders.specs.declared.fault.OrderFault.{OrderFault}
use Rattle.orders.specs.declared.fault.OrderFault.TheVariants as order_fault
use Rattle.report_text.specs.declared.fault.ReportFault.{ReportFault}
use Rattle.report_text.specs.declared.fault.ReportFault.TheVariants as report_fault
use Rattle.workload.specs.declared.fault.ScriptFault.{ScriptFault}
use Rattle.workload.specs.declared.fault.ScriptFault.TheVariants as script_fault
use Rattle.trace_reader.specs.declared.fault.TraceFault.{TraceFault}
use Rattle.trace_reader.specs.declared.fault.TraceFault.TheVariants as trace_fault
use Rattle.weights.specs.declared.fault.WeightsFault.{WeightsFault}
use Rattle.weights.specs.declared.fault.WeightsFault.TheVariants as weights_fault
use Rattle.command_files.specs.declared.status.Status.{Status}
use Rattle.command_files.specs.declared.status.Status.TheVariants.{BadOrder, BadReport, BadScript, BadTrace, BadWeights, Limit, NoMemory, WireFault}

-- the status says the fault of a trace
abbrev pub IsStatusOfTrace : TraceFault → Status → Type 0
IsStatusOfTrace (trace_fault.Limit line which count) status = status ≡ Limit which count
IsStatusOfTrace trace_fault.NoMemory status = status ≡ NoMemory
IsStatusOfTrace fault status = status ≡ BadTrace fault

-- the status says the fault of weights
abbrev pub IsStatusOfWeights : WeightsFault → Status → Type 0
IsStatusOfWeights (weights_fault.Limit line which count) status = status ≡ Limit which count
IsStatusOfWeights weights_fault.NoMemory status = status ≡ NoMemory
IsStatusOfWeights fault status = status ≡ BadWeights fault

-- the status says the fault of a table
abbrev pub IsStatusOfTable : TableFault → Status → Type 0
IsStatusOfTable (table_fault.Limit which count) status = status ≡ Limit which count
IsStatusOfTable table_fault.NoMemory status = status ≡ NoMemory

-- the status says the fault of a plan
abbrev pub IsStatusOfPlan : PlanFault → Status → Type 0
IsStatusOfPlan (plan_fault.WireFault port) status = status ≡ WireFault port 1
IsStatusOfPlan plan_fault.NoMemory status = status ≡ NoMemory

-- the status says the fault of a report
abbrev pub IsStatusOfReport : ReportFault → Status → Type 0
IsStatusOfReport (report_fault.BadText line) status = status ≡ BadReport line
IsStatusOfReport report_fault.NoMemory status = status ≡ NoMemory

-- the status says the fault of an order
abbrev pub IsStatusOfOrder : OrderFault → Status → Type 0
IsStatusOfOrder order_fault.NoMemory status = status ≡ NoMemory
IsStatusOfOrder fault status = status ≡ BadOrder fault

-- the status says the fault of a script
abbrev pub IsStatusOfScript : ScriptFault → Status → Type 0
IsStatusOfScript (script_fault.Bad line field) status = status ≡ BadScript line field
IsStatusOfScript (script_fault.Limit which count) status = status ≡ Limit which count
IsStatusOfScript script_fault.NoMemory status = status ≡ NoMemory

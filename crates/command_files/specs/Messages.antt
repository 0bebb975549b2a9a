-- The lines on standard error, without their line feeds. There is none where the job ended well, nor where the answer
-- is no.
use Rattle.std.specs.Prelude.{ℕ, ◌++◌, List, [], codes, decimal}
use Rattle.coflow_units.specs.declared.quantity.Quantity.{Quantity}
use Rattle.coflow_units.specs.declared.quantity.Quantity.TheVariants as quantity
use Rattle.orders.specs.declared.fault.OrderFault.{OrderFault}
use Rattle.orders.specs.declared.fault.OrderFault.TheVariants as order
use Rattle.trace_reader.specs.declared.fault.TraceFault.{TraceFault}
use Rattle.trace_reader.specs.declared.fault.TraceFault.TheVariants as trace
use Rattle.weights.specs.declared.fault.WeightsFault.{WeightsFault}
use Rattle.weights.specs.declared.fault.WeightsFault.TheVariants as weight
use Rattle.command_files.specs.declared.status.Status.{Status}
use Rattle.command_files.specs.declared.status.Status.TheVariants.{Ok, No, Usage, BadTrace, BadWeights, BadReport, BadScript, Limit, ReadFault, WriteFault, WireFault, NoMemory, BadOrder, UnknownPolicy}

-- the name of a quantity
abbrev pub name_of : Quantity → List ℕ
name_of quantity.Text = codes "text"
name_of quantity.Ports = codes "ports"
name_of quantity.Coflows = codes "coflows"
name_of quantity.Id = codes "id"
name_of quantity.Arrival = codes "arrival"
name_of quantity.Mappers = codes "mappers"
name_of quantity.Reducers = codes "reducers"
name_of quantity.Megabytes = codes "megabytes"
name_of quantity.Weight = codes "weight"
name_of quantity.Units = codes "units"
name_of quantity.Flows = codes "flows"
name_of quantity.Clients = codes "clients"
name_of quantity.Commands = codes "commands"
name_of quantity.Epochs = codes "epochs"

-- a limit, as it is told
abbrev pub limit_text : Quantity → ℕ → List ℕ
limit_text which count = codes "limit: " ++ name_of which ++ codes " " ++ decimal count

-- what is wrong with a trace
abbrev pub trace_text : TraceFault → List ℕ
trace_text trace.BadHeader = codes "trace: bad header"
trace_text (trace.BadLine line field) = codes "trace: line " ++ decimal line ++ codes " field " ++ decimal field
trace_text (trace.Missing have want) = codes "trace: have " ++ decimal have ++ codes " lines, want " ++ decimal want
trace_text (trace.Extra line) = codes "trace: extra line " ++ decimal line
trace_text (trace.DuplicateId line id) = codes "trace: line " ++ decimal line ++ codes " repeats id " ++ decimal id
trace_text (trace.PortRange line port) = codes "trace: line " ++ decimal line ++ codes " port " ++ decimal port ++
    codes " out of range"
trace_text (trace.Limit line which count) = limit_text which count
trace_text trace.NoMemory = codes "no memory"

-- what is wrong with weights
abbrev pub weights_text : WeightsFault → List ℕ
weights_text (weight.BadLine line field) = codes "weights: line " ++ decimal line ++ codes " field " ++ decimal field
weights_text (weight.UnknownId line id) =
    codes "weights: line " ++ (decimal line ++ (codes " unknown id " ++ decimal id))
weights_text (weight.DuplicateId line id) =
    codes "weights: line " ++ (decimal line ++ (codes " repeats id " ++ decimal id))
weights_text (weight.Limit line which count) = limit_text which count
weights_text weight.NoMemory = codes "no memory"

-- what is wrong with an order
abbrev pub order_text : OrderFault → List ℕ
order_text (order.BadLine line field) = codes "order: line " ++ decimal line ++ codes " field " ++ decimal field
order_text (order.UnknownId line id) = codes "order: line " ++ (decimal line ++ (codes " unknown id " ++ decimal id))
order_text (order.DuplicateId line id) = codes "order: line " ++ (decimal line ++ (codes " repeats id " ++ decimal id))
order_text (order.Missing have want) = codes "order: have " ++ decimal have ++ codes " lines, want " ++ decimal want
order_text order.NoMemory = codes "no memory"

-- what a status says behind the program's name
abbrev pub status_text : Status → List ℕ
status_text Ok = []
status_text No = []
status_text Usage = codes "usage: sincronia COMMAND FIRST [SECOND] [options]"
status_text (BadTrace fault) = trace_text fault
status_text (BadWeights fault) = weights_text fault
status_text (BadReport line) = codes "report: line " ++ decimal line
status_text (BadScript line field) = codes "script: line " ++ decimal line ++ codes " field " ++ decimal field
status_text (Limit which count) = limit_text which count
status_text (ReadFault count) = codes "read fault"
status_text (WriteFault count) = codes "write fault"
status_text (WireFault port count) = codes "wire fault at port " ++ decimal port
status_text NoMemory = codes "no memory"
status_text (BadOrder fault) = order_text fault
status_text UnknownPolicy = codes "policy: no ranker of this name"

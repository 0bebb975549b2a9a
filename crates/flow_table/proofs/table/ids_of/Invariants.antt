-- the ids so far
use Rattle.std.proofs.Common.{◌≡◌, take}
use Rattle.coflow_units.specs.Trace.{ids_of}
use Rattle.flow_table.proofs.table.ids_of.Given as goal

abbrev pub invariant-loop-line : goal.invariant-loop-line
invariant-loop-line l = l.ids.items ≡ ids_of (take l.line-index l.lines)

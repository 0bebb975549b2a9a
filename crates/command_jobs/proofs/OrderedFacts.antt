-- What the laws say of the report of a given order whose text was written.
use Rattle.std.proofs.Common.{ℕ, List}
use Rattle.std.specs.Prelude.{Option}
use Rattle.command_words.specs.Words.{Said}
use Rattle.flow_table.specs.Table.{instance_of}
use Rattle.outside.specs.Shelf.{Told}
use Rattle.plans.proofs.PlanTotals.{served_bounds}
use Rattle.command_files.specs.Written.{Appends}
use Rattle.command_jobs.specs.Ordered.{ServedOf, WritesServed}

pub writes_served : (told : Option Told) (said : Said) (old new : Option (List ℕ)) (text : List ℕ) → ServedOf told said text → Appends old new text →
    WritesServed told said old new
writes_served told said old new text serves written = record {
  text = text;
  serves = serves;
  bounds = served_bounds (instance_of serves.table serves.weights) serves.table.ids serves.line serves.report serves.served;
  written = written;
}

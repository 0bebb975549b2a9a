-- the locations so far stand behind their number
use Rattle.std.proofs.Common.{◌≡◌, ◌++◌, length, take}
use Rattle.std.specs.List.{flat_map}
use Rattle.coflow_units.specs.Text.{spaced}
use Rattle.workload.proofs.writing.push_mappers.Given as goal

abbrev pub invariant-loop-location : goal.invariant-loop-location
invariant-loop-location l = l.text.items ≡ l.fn.text.items ++ (spaced (length l.mappers) ++ flat_map spaced (take l.location-index l.mappers))

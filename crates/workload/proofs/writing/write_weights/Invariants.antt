-- the lines so far are the text
use Rattle.std.proofs.Common.{◌≡◌, map, take}
use Rattle.coflow_units.specs.Text.{text_of}
use Rattle.workload.specs.Text.{weight_line}
use Rattle.workload.proofs.writing.write_weights.Given as goal

abbrev pub invariant-loop-coflow : goal.invariant-loop-coflow
invariant-loop-coflow l = l.text.items ≡ text_of (map weight_line (take l.coflow-index l.coflows))

-- the lines so far are the text
use Rattle.std.proofs.Common.{◌≡◌, ◌∷◌, map, take}
use Rattle.std.specs.Prelude.{codes}
use Rattle.workload.specs.Text.{coflow_line}
use Rattle.coflow_units.specs.Text.{text_of}
use Rattle.workload.proofs.writing.write_trace.Given as goal

abbrev pub invariant-loop-coflow : goal.invariant-loop-coflow
invariant-loop-coflow l = l.text.items ≡ text_of (codes "150 200" ∷ map coflow_line (take l.coflow-index l.coflows))

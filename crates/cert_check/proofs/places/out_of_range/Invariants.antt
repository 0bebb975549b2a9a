-- the ports so far are in range
use Rattle.std.proofs.Common.{◌<◌, ℕ}
use Rattle.std.specs.List.{slice_index_or}
use Rattle.report_text.specs.declared.value.PlaceLine.{PlaceLine}
use Rattle.cert_check.proofs.places.out_of_range.Given as goal

abbrev pub invariant-loop-index : goal.invariant-loop-index
invariant-loop-index l = (k : ℕ) (d : PlaceLine) → k < l.index → (slice_index_or l.places k d).port.number < l.ports

use Rattle.std.proofs.Common.{take}
use Rattle.text_fields.specs.Numbers.{AreIds}
use Rattle.coflow_units.specs.Trace.{ids_of}
use Rattle.weights.specs.Weights.{IsSameIds}
use Rattle.weights.proofs.weights.known_ids.Given as goal

-- The set has the ids of the coflows up to here, which have 32 bits.
abbrev pub invariant-loop-coflow : goal.invariant-loop-coflow
invariant-loop-coflow l = IsSameIds l.known.keys (ids_of (take l.coflow-index l.coflows)) × AreIds l.known.keys

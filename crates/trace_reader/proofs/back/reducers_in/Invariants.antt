use Rattle.trace_reader.specs.Coflow.{reducer_checks, reducer_of}
use Rattle.trace_reader.proofs.Rows.{SoFar}
use Rattle.trace_reader.proofs.back.reducers_in.Given as goal

-- The reducers up to here passed.
abbrev pub invariant-loop-index : goal.invariant-loop-index
invariant-loop-index l = SoFar (reducer_checks l.ports) reducer_of l.field l.fn.fields l.fields l.reducers.items l.index

use Rattle.text_fields.specs.Numbers.{number}
use Rattle.trace_reader.specs.Coflow.{mapper_checks}
use Rattle.trace_reader.proofs.Rows.{SoFar}
use Rattle.trace_reader.proofs.front.mappers_in.Given as goal

-- The mappers up to here passed.
abbrev pub invariant-loop-index : goal.invariant-loop-index
invariant-loop-index l = SoFar (mapper_checks l.ports) number 4 l.fn.fields l.fields l.mappers.items l.index

use Rattle.text_fields.specs.Lines.{lines_of}
use Rattle.trace_reader.proofs.Accepted.{accepted}
use Rattle.trace_reader.proofs.laws.accepted_is_trace.Goals as goal

pub returns : goal.returns
returns c = λ text e. accepted (lines_of text) e

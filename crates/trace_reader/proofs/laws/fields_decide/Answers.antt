use Rattle.text_fields.specs.Lines.{lines_of}
use Rattle.trace_reader.proofs.FieldsDecide.{accepted_alike, trace_alike}
use Rattle.trace_reader.proofs.laws.fields_decide.Goals as goal

pub returns : goal.returns
returns c = record {
  read = λ a b e p. accepted_alike (lines_of a) (lines_of b) e p;
  trace = λ a b e. trace_alike (lines_of a) (lines_of b) e;
}

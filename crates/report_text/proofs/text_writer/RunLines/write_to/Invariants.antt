-- the lines so far were put
use Rattle.std.proofs.Common.{◌≡◌, [], take}
use Rattle.report_text.proofs.PutSteps.{PutsAll}
use Rattle.report_text.proofs.WrittenLines.{lines_text}
use Rattle.report_text.proofs.text_writer.RunLines.write_to.Given as goal

abbrev pub invariant-loop : goal.invariant-loop
invariant-loop g l = record {
  runs : l.walk.runs ≡ l.fn.self;
  entered : l.walk.entered ≡ l.counter;
  faults : g.K.Sink.faults l.sink ≡ g.K.Sink.faults l.fn.sink;
  taken : PutsAll (g.K.Sink.taken l.fn.sink) (g.K.Sink.taken l.sink) [] l.piece (lines_text (take l.counter l.fn.self));
}

-- the flows so far were put
use Rattle.std.proofs.Common.{◌≡◌, List, ℕ, ◌++◌, length}
use Rattle.std.specs.List.{flat_map}
use Rattle.coflow_units.specs.Text.{spaced}
use Rattle.report_text.proofs.PutSteps.{PutsAll}
use Rattle.report_text.proofs.piece.Piece.put_flows.Given as goal

abbrev pub invariant-loop-rest : goal.invariant-loop-rest
invariant-loop-rest g l = record {
  done : List ℕ;
  flows : l.flows ≡ done ++ l.rest;
  faults : g.K.Sink.faults l.sink ≡ g.K.Sink.faults l.fn.sink;
  taken : PutsAll (g.K.Sink.taken l.fn.sink) (g.K.Sink.taken l.sink) l.fn.self l.self (flat_map spaced done);
}

abbrev pub decreases-loop-rest : goal.decreases-loop-rest
decreases-loop-rest g l = length l.rest

use Rattle.std.proofs.Common.{◌≡◌}
use Rattle.crews.proofs.Trying.{SoFar}
use Rattle.crews.proofs.part.Part.attend.Given as goal

abbrev pub invariant-loop-outlet : goal.invariant-loop-outlet
invariant-loop-outlet g l = record {
  own : l.agent.at ≡ l.fn.self.agent.at;
  same : l.agent.id ≡ l.fn.self.agent.id;
  so_far : SoFar g.W.Wire.faults g.W.Wire.runs l.board.ports l.outlet-index l.fn.self.agent.view l.agent.view l.fn.self.outlets.items l.outlet-items;
}

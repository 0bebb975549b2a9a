use Rattle.std.proofs.Common.{◌≡◌, ◌≤◌}
use Rattle.port_agent.proofs.Rounds.{SoFar}
use Rattle.port_agent.proofs.agent.Agent.serve.Given as goal

abbrev pub invariant-loop-offset : goal.invariant-loop-offset
invariant-loop-offset g l = record {
  own : l.self.at ≡ l.fn.self.at;
  same : l.self.id ≡ l.fn.self.id;
  few : l.fn.board.ports ≤ 1025;
  so_far : SoFar g.W.Wire.faults g.W.Wire.runs l.fn.board.ports l.fn.first l.offset l.fn.self.view l.self.view l.fn.wires l.wires l.served;
}

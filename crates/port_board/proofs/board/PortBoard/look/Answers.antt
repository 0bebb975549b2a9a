use Rattle.std.proofs.Common.{rules}
use Rattle.port_board.proofs.AgentSteps.{loading}
use Rattle.port_board.proofs.board.PortBoard.look.Goals as goal

pub load-loaded-requires-clause-allowed : goal.load-loaded-requires-clause-allowed
load-loaded-requires-clause-allowed c = loading _ _ _ _ _ _ c.requires.agent.0 c.requires.agent.1 (search rules)

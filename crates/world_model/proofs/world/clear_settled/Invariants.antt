use Rattle.std.proofs.Common.{◌≡◌, ◌++◌, take, drop, map}
use Rattle.world_model.proofs.Tallies.{unsettled}
use Rattle.world_model.proofs.world.clear_settled.Given as goal

abbrev pub invariant-loop-port : goal.invariant-loop-port
invariant-loop-port l = l.port-items ≡ map unsettled (take l.port-index l.fn.ports) ++ drop l.port-index l.fn.ports

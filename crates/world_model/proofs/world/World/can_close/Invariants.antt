use Rattle.std.proofs.Common.{◌≡◌, ℕ, ◌<◌, true}
use Rattle.world_model.specs.World.{port_at, run_of}
use Rattle.world_model.specs.Guards.{in_run, is_done}
use Rattle.world_model.proofs.world.World.can_close.Given as goal

abbrev pub invariant-loop-port : goal.invariant-loop-port
invariant-loop-port l = (p : ℕ) → p < l.port → in_run (run_of l.self) (λ r. is_done l.self.opening r p (port_at l.self p)) ≡ true

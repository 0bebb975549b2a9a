-- the ports of the flows so far have no mark, and the others have theirs
use Rattle.std.proofs.Common.{◌<◌, ℕ, false, get_or, length, take}
use Rattle.std.specs.Prelude.{◌↔◌, IsTrue}
use Rattle.schedule_model.specs.Repeat.{Uses}
use Rattle.schedule_model.proofs.clashes.free_ports.Given as goal

abbrev pub invariant-loop-flow : goal.invariant-loop-flow
invariant-loop-flow l = (p : ℕ) → p < length l.used → IsTrue (get_or l.used p false) ↔
    (IsTrue (get_or l.fn.used p false) × (Uses l.flows l.side (take l.flow-index l.left) p → ⊥))

use Rattle.std.proofs.Common.{take, ◌-◌, subst, arith}
use Rattle.matching.specs.Waits.{IsTaken}
use Rattle.matching.proofs.WaitSteps.{popped_marks, popped}
use Rattle.matching.proofs.stack.Stack.pop.Goals as goal

pub invariant_of-self : goal.invariant_of-self
invariant_of-self c =
    let s = c.self.inside in
    popped_marks s.count s.ports.items s.marks.items c.index-port.result.now (omega arith) c.index-port.ensures c.self.invariant

pub returns-clause-popped : goal.returns-clause-popped
returns-clause-popped c =
    let s = c.self.inside in
    subst (λ w. IsTaken w.room w.ports (take (s.count - 1) s.ports.items) c.index-port.result.now) c.self.view_is
    (popped s.count s.ports.items s.marks.items c.index-port.result.now (omega arith) c.index-port.ensures c.self.invariant)

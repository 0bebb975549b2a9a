use Rattle.std.proofs.Common.{◌++◌, subst}
use Rattle.matching.specs.Waits.{IsTaken}
use Rattle.matching.proofs.WaitSteps.{taken_first}
use Rattle.matching.proofs.waiting.Waiting.pop.Goals as goal

pub returns-clause-popped : goal.returns-clause-popped
returns-clause-popped c =
    let s = c.self.inside in
    subst (λ w. IsTaken w.room w.ports (c.pop.new.self.ports ++ s.second.ports) c.in-Some.port) c.self.view_is
    (taken_first s.first.room s.first.ports c.pop.new.self.ports s.second.ports c.in-Some.port c.in-Some.ensures.popped)

-- The driver keeps that the journal which it has seen is legal.
use Rattle.std.proofs.Common.{ap, ◌∙◌, subst}
use Rattle.client_session.specs.Desk.{IsSeen}
use Rattle.client_session.specs.Models.{DriverModel}
use Rattle.client_session.proofs.driver.Driver.made.Goals as goal

pub returns-clause-seen : goal.returns-clause-seen
returns-clause-seen c = λ s e.
    let mine = ap (λ (m : DriverModel). m.setting) c.self.view_is ∙ e in
    subst (λ (m : DriverModel). IsSeen s.opening m.journal) c.self.view_is (c.self.invariant.seen s mine)

use Rattle.std.proofs.Common.{◌≡◌, ◌∙◌, List, ap, subst}
use Rattle.coflow_units.specs.declared.plan.Place.{Place}
use Rattle.journal.specs.Fold.{state_of}
use Rattle.journal.specs.Journal.{order_in, version_of}
use Rattle.master_core.specs.Master.{MasterFacts}
use Rattle.journal.specs.Line.{order}
use Rattle.master_core.specs.Published.{ranked}
use Rattle.journal.proofs.Growth.{version_counted}
use Rattle.master_core.proofs.master.Master.places.Goals as goal

pub returns-clause-order : goal.returns-clause-order
returns-clause-order c =
    let s = state_of c.self.inside.opening c.self.inside.journal.items in
    subst (λ (v : MasterFacts). ranked c.places.result.now ≡ order_in v.opening v.journal (version_of v.journal)) c.self.view_is
    (ap (λ (l : List Place). ranked l) c.places.ensures.places ∙ c.self.invariant.tells.orders.order_is ∙
    ap (order s) (version_counted c.self.inside.opening c.self.inside.journal.items))

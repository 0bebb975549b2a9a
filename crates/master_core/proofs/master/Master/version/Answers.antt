use Rattle.std.proofs.Common.{◌≡◌, ◌∙◌, subst}
use Rattle.journal.specs.Journal.{version_of}
use Rattle.master_core.specs.Master.{MasterFacts}
use Rattle.journal.proofs.Growth.{version_counted}
use Rattle.master_core.proofs.master.Master.version.Goals as goal

pub returns : goal.returns
returns c =
    subst (λ (v : MasterFacts). c.version.result ≡ version_of v.journal) c.self.view_is
    (c.version.ensures ∙ c.self.invariant.tells.orders.version_is ∙ version_counted c.self.inside.opening c.self.inside.journal.items)

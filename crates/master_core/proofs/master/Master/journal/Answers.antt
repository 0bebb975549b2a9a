use Rattle.std.proofs.Common.{◌+◌, ◌≤◌, length, subst}
use Rattle.master_core.specs.Master.{MasterFacts}
use Rattle.journal.proofs.Legal.{legal_fits}
use Rattle.master_core.proofs.master.Master.journal.Goals as goal

pub returns-clause-fits : goal.returns-clause-fits
returns-clause-fits c =
    subst (λ (v : MasterFacts). length v.journal ≤ v.opening.limit + v.opening.table.ports + 1) c.self.view_is
    (legal_fits c.self.inside.opening c.self.inside.journal.items c.self.invariant.legal)

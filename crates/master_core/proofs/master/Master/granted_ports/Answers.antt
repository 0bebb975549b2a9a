use Rattle.std.proofs.Common.{◌≡◌, ◌∙◌, List, ℕ, ap, map, subst}
use Rattle.coflow_units.specs.Flows.{ingress_of}
use Rattle.journal.specs.Fold.{state_of}
use Rattle.journal.specs.Runs.{flows_granted}
use Rattle.master_core.specs.Master.{MasterFacts}
use Rattle.master_core.proofs.RunTells.{flows_told}
use Rattle.master_core.proofs.master.Master.granted_ports.Goals as goal

pub returns : goal.returns
returns c =
    let o = c.self.inside.opening in
    let s = state_of o c.self.inside.journal.items in
    let x = c.self.inside.standing in
    subst (λ (v : MasterFacts). c.ports.result.now ≡ map (ingress_of v.opening.table.flows) (flows_granted (state_of v.opening v.journal).run)) c.self.view_is
    (c.ports.ensures o.table.flows x.ledger.owed c.self.invariant.fit.run
    ∙ ap (λ (l : List ℕ). map (ingress_of o.table.flows) l) (flows_told o.table.flows o.table.ports s.run x.runs.run c.self.invariant.tells.run))

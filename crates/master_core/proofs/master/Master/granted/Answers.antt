use Rattle.std.proofs.Common.{◌≡◌, ◌∙◌, subst}
use Rattle.journal.specs.Fold.{state_of}
use Rattle.master_core.specs.Master.{MasterFacts}
use Rattle.journal.specs.Runs.{flow_at}
use Rattle.master_core.proofs.RunTells.{flow_told}
use Rattle.master_core.proofs.master.Master.granted.Goals as goal

pub returns : goal.returns
returns c =
    let o = c.self.inside.opening in
    let s = state_of o c.self.inside.journal.items in
    subst (λ (v : MasterFacts). c.at.result ≡ flow_at v.opening.table.flows (state_of v.opening v.journal).run c.args.ingress) c.self.view_is
    (c.at.ensures ∙ flow_told o.table.flows o.table.ports s.run c.self.inside.standing.runs.run c.args.ingress c.self.invariant.tells.run)

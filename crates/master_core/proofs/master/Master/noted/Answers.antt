use Rattle.std.proofs.Common.{◌≡◌, ◌∙◌, ◌<◌, subst, sym}
use Rattle.journal.specs.Fold.{state_of}
use Rattle.master_core.specs.Master.{MasterFacts}
use Rattle.journal.specs.Runs.{noted_at}
use Rattle.master_core.proofs.RunTells.{note_told}
use Rattle.master_core.proofs.master.Master.noted.Goals as goal

pub returns : goal.returns
returns c =
    let o = c.self.inside.opening in
    let s = state_of o c.self.inside.journal.items in
    let low = subst (λ (v : MasterFacts). c.args.ingress < v.opening.table.ports) (sym c.self.view_is) c.requires in
    subst (λ (v : MasterFacts). c.noted.result ≡ noted_at (state_of v.opening v.journal).run c.args.ingress) c.self.view_is
    (c.noted.ensures ∙ note_told o.table.flows o.table.ports s.run c.self.inside.standing.runs.run c.args.ingress low c.self.invariant.tells.run)

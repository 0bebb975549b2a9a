use Rattle.std.proofs.Common.{◌≡◌, ◌∙◌, ap, subst}
use Rattle.journal.specs.Fold.{state_of}
use Rattle.journal.specs.Journal.{rank_of, version_of}
use Rattle.master_core.specs.Master.{MasterFacts}
use Rattle.journal.specs.Line.{order, rank_in}
use Rattle.journal.proofs.Growth.{version_counted}
use Rattle.master_core.proofs.master.Master.rank.Goals as goal

pub returns : goal.returns
returns c =
    let s = state_of c.self.inside.opening c.self.inside.journal.items in
    subst (λ (v : MasterFacts). c.rank.result ≡ rank_of v.opening v.journal (version_of v.journal) c.args.coflow) c.self.view_is
    (c.rank.ensures ∙ ap (λ l. rank_in l c.args.coflow) (c.self.invariant.tells.orders.order_is ∙ ap (order s) (version_counted c.self.inside.opening c.self.inside.journal.items)))

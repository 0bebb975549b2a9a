use Rattle.std.proofs.Common.{◌≡◌, ◌∙◌, ◌<◌, ℕ, ap, length, subst, arith}
use Rattle.std.specs.Prelude.{slice_index}
use Rattle.journal.specs.Fold.{state_of}
use Rattle.journal.specs.Journal.{rank_of, version_of}
use Rattle.journal.specs.Line.{order, rank_in}
use Rattle.journal.proofs.Growth.{version_counted}
use Rattle.master_core.specs.Master.{MasterFacts}
use Rattle.master_core.proofs.master.Master.ranks.Goals as goal

pub returns-clause-rank : goal.returns-clause-rank
returns-clause-rank c =
    let o = c.self.inside.opening in
    let journal = c.self.inside.journal.items in
    subst (λ (v : MasterFacts). (coflow : ℕ) → coflow < length v.opening.table.ids →
    slice_index c.ranks.result.now coflow ≡ rank_of v.opening v.journal (version_of v.journal) coflow) c.self.view_is
    (λ coflow low. c.ranks.ensures.rank coflow (omega (arith, low, c.self.invariant.fit.orders_coflows))
    ∙ ap (λ l. rank_in l coflow) (c.self.invariant.tells.orders.order_is ∙ ap (order (state_of o journal)) (version_counted o journal)))

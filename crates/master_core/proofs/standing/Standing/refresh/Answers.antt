-- Grants that are made anew are those of the line.
use Rattle.std.proofs.Common.{◌∙◌, ℕ, List, subst}
use Rattle.std.specs.Prelude.{slice_index}
use Rattle.matching.specs.Matching.{IsSettled}
use Rattle.master_core.specs.Waiting.{line_of}
use Rattle.master_core.proofs.TellSteps.{fits_granted}
use Rattle.master_core.proofs.standing.Standing.refresh.Goals as goal

pub returns-clause-fit : goal.returns-clause-fit
returns-clause-fit c =
    let o = c.args.opening.now in
    let old = c.args.self.now in
    let made = c.grant_anew in
    let m = made.new.self.tables in
    let along = subst (λ (l : List ℕ). IsSettled o.table.flows l (λ f. slice_index c.owed_all.result.now f) m) (c.coflows.ensures ∙ c.fill.ensures.line) made.ensures.settled in
    fits_granted o old c.fill.new.self made.new.self c.requires.fit c.fill.ensures.room made.ensures.ports made.ensures.room
    (subst (λ (l : List ℕ). IsSettled o.table.flows (line_of old.roster old.orders) (λ f. slice_index l f) m) c.owed_all.ensures.owed along) made.ensures.closed

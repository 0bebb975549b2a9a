use Rattle.std.proofs.Common.{◌≡◌, false, length, refl, replicate, sym, ap, subst, ◌∙◌}
use Rattle.std.specs.Prelude.{map}
use Rattle.coflow_units.specs.declared.fabric.Flow.{Flow}
use Rattle.flow_table.specs.Table.{TableFacts}
use Rattle.epochs.specs.Tallies.{IsTallied}
use Rattle.replays.specs.Kept.{FitsTable}
use Rattle.replays.proofs.ActionSteps.{first_tells}
use Rattle.replays.proofs.kept.Kept.first.Goals as goal

pub returns-clause-tells : goal.returns-clause-tells
returns-clause-tells c = λ x ranker input table weights.
    let e = sym table in
    let n : c.coflows.result ≡ length x.table.ids = c.coflows.ensures.coflows ∙ ap (λ (t : TableFacts). length t.ids) e in
    let p = c.in_ok-progress.progress in
    let known = c.in_ok-progress.ensures in
    first_tells x ranker _ input known.time (known.left ∙ ap (λ (t : TableFacts). map (λ (f : Flow). f.units) t.flows) e)
    (known.each ∙ ap (λ (t : TableFacts). length t.ids) e) (subst (λ (t : TableFacts). IsTallied t.flows p.left.items p.owed.items) e known.tallied)
    (known.each_end ∙ ap (λ (t : TableFacts). length t.ids) e) known.ends
    (c.in_ok-marks.ensures.joined ∙ ap (λ k. replicate k false) n) (c.in_ok-marks.ensures.present ∙ ap (λ k. replicate k false) n)
    (c.in_ok-marks.ensures.told ∙ ap (λ k. replicate k false) n) c.in_ok-line.ensures.none c.in_ok-line.ensures.stale
    (c.in_ok-line.ensures.ports ∙ ap (λ (t : TableFacts). t.ports) e) (c.in_ok-line.ensures.room ∙ ap (λ (t : TableFacts). length t.flows) e)
    (subst (λ (t : TableFacts). FitsTable t x.weights c.in_ok-questions.questions) e
    (subst (λ w. FitsTable c.args.table.now w c.in_ok-questions.questions) (sym weights) c.in_ok-questions.ensures.fits)) c.in_ok-questions.ensures.none refl

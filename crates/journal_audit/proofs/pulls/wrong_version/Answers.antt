use Rattle.std.proofs.Common.{refl, sym, ◌∙◌, arith}
use Rattle.std.proofs.lemmas.Bool.{false≢true}
use Rattle.journal_audit.proofs.PullSteps.{version_one_more, version_wrong_at}
use Rattle.journal_audit.proofs.pulls.wrong_version.Goals as goal

pub returns-then-not-is_next_pull : goal.returns-then-not-is_next_pull
returns-then-not-is_next_pull c = λ ids finds.
    version_wrong_at ids c.args.newest c.args.pulls.now c.loop-index.index _ _ c.loop-index-test.true refl refl
    (λ h. false≢true (sym c.if-not-is_next_pull.true ∙ (c.is_next_pull.ensures ids finds).1 h)) (c.loop-index.invariant ids finds)

pub loop-index-preserved : goal.loop-index-preserved
loop-index-preserved c = λ ids finds.
    version_one_more ids c.args.newest c.args.pulls.now c.loop-index.index c.requires.rising c.loop-index-test.true (c.loop-index.invariant ids finds)
    ((c.is_next_pull.ensures ids finds).0 c.if-not-is_next_pull.false)

pub returns : goal.returns
returns c = λ ids finds k lt. c.loop-index.invariant ids finds k (omega (arith, lt, c.loop-index-test.false))

use Rattle.std.proofs.Common.{refl, ◌∙◌}
use Rattle.journal_audit.specs.Pulls.{pull_at}
use Rattle.journal_audit.proofs.PullSteps.{rank_one_more, ranks_all}
use Rattle.journal_audit.proofs.pulls.wrong_rank.Goals as goal

pub loop-pull-preserved : goal.loop-pull-preserved
loop-pull-preserved c = λ o journal finds h.
    rank_one_more o journal c.args.pulls.now c.loop-pull.pull-index (pull_at c.args.pulls.now c.loop-pull.pull-index) refl
    (c.if-pull-real.false ∙ c.rank_of-real.ensures o journal finds h) (c.loop-pull.invariant o journal finds h)

pub returns : goal.returns
returns c = λ o journal finds h. ranks_all o journal c.args.pulls.now c.loop-pull.pull-index c.loop-pull-test.false (c.loop-pull.invariant o journal finds h)

use Rattle.rankers.proofs.scoring.score.Goals as goal

pub returns : goal.returns
returns c = c.score_of.ensures c.args.table.now c.args.order.now c.requires.count (c.in_ok-came.ensures.came c.args.weights.now)

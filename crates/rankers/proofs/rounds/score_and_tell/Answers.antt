use Rattle.rankers.proofs.rounds.score_and_tell.Goals as goal

pub returns-clause-score : goal.returns-clause-score
returns-clause-score g c = c.score_of.ensures c.args.table.now c.args.order.now c.requires.count (c.in_ok-came.ensures.came c.args.weights.now)

pub returns-clause-told : goal.returns-clause-told
returns-clause-told g c = c.in_ok-came.ensures.told c.args.weights.now

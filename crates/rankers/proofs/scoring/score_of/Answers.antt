use Rattle.std.proofs.Common.{subst, ◌∙◌}
use Rattle.flow_table.specs.Table.{instance_of}
use Rattle.rankers.specs.Scores.{IsCame}
use Rattle.rankers.proofs.ServedOrders.{came_score}
use Rattle.rankers.proofs.scoring.score_of.Goals as goal

pub returns-in-Ends : goal.returns-in-Ends
returns-in-Ends c = λ t order each came.
    came_score t c.args.weights.now order c.in-Ends.ends c.cost_of.result each
    (subst (IsCame (instance_of t c.args.weights.now) order) c.in-Ends.is came) (λ flows slots are. c.cost_of.ensures.cost flows slots (c.as_slice.ensures ∙ are))

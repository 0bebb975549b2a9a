use Rattle.std.proofs.Common.{◌∙◌, length, ap, arith}
use Rattle.hall_online.proofs.Begins.{opening_is}
use Rattle.hall_online.proofs.beginning.hall_of.Goals as goal

pub returns-in-Ok-new-clause-opening : goal.returns-in-Ok-new-clause-opening
returns-in-Ok-new-clause-opening c =
    c.in_ok-hall.ensures.opening ∙ c.in_ok-master.ensures.opening ∙
    opening_is c.args.table.now c.in_ok-copied.copied c.args.weights.now c.from_vec.result _ c.in_ok-copied.ensures (c.from_vec.ensures ∙ c.in-Ok.ensures.items)
    (omega (arith, c.coflows.ensures.coflows, ap length c.flows.ensures.flows))

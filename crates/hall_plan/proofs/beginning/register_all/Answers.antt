use Rattle.std.proofs.Common.{◌<◌, length, arith}
use Rattle.hall_plan.proofs.PlanTurns.{joins_done, one_joined}
use Rattle.hall_plan.proofs.beginning.register_all.Goals as goal

pub unreachable-requires : goal.unreachable-requires
unreachable-requires g c =
    let k = c.loop-coflow.coflow in
    let low : k < length c.args.hall.now.setting.opening.table.ids = omega (arith, c.loop-coflow-test.true, c.coflows-coflow-end.ensures.coflows) in
    let (r, is) = joins_done c.args.hall.now c.loop-coflow.driver c.register.new.self k c.register.result c.loop-coflow.invariant.alone low c.register.ensures.turn in
    c.in_default.not-Done r is

pub loop-coflow-preserved : goal.loop-coflow-preserved
loop-coflow-preserved g c =
    let k = c.loop-coflow.coflow in
    let low : k < length c.args.hall.now.setting.opening.table.ids = omega (arith, c.loop-coflow-test.true, c.coflows-coflow-end.ensures.coflows) in
    record { alone = one_joined c.args.hall.now c.loop-coflow.driver c.register.new.self k c.register.result c.loop-coflow.invariant.alone low c.register.ensures.turn }

use Rattle.std.proofs.Common.{◌<◌, length, arith}
use Rattle.std.proofs.lemmas.Grind.{common_steps}
use Rattle.cert_check.proofs.IdSteps.{found_more}
use Rattle.cert_check.proofs.places.coflows_by_id.Goals as goal

pub loop-coflow-preserved : goal.loop-coflow-preserved
loop-coflow-preserved c = λ id.
    let ids = c.args.table.now.ids in
    let within : c.loop-coflow.coflow < length ids = omega (arith, c.loop-coflow-test.true, c.coflows-coflow-end.ensures.coflows) in
    let more = found_more ids c.loop-coflow.coflow id within in
    let here = c.loop-coflow.invariant id in
    let there = c.loop-coflow.invariant c.id.result in
    grind (arith, common_steps)

use Rattle.std.proofs.Common.{◌<◌, false, arith, get_or, length}
use Rattle.std.proofs.lemmas.List.{length-set}
use Rattle.schedule_model.proofs.PortMarks.{free_more}
use Rattle.schedule_model.proofs.clashes.free_ports.Goals as goal

pub loop-flow-preserved : goal.loop-flow-preserved
loop-flow-preserved c q in' =
    let flows = c.args.flows.now in
    let left = c.args.left.now in
    let used = c.loop-flow.used in
    let k = c.loop-flow.flow-index in
    let p = c.port_at-number.result in
    let lt = c.loop-flow-test.true in
    let inside : p < length used =
    omega (
      arith,
      c.port_at-number.ensures,
      c.requires.ports (get_or left k 0) record { coflow = 0; ingress = 0; egress = 0; units = 0 } (c.requires.names k 0 lt),
      c.loop-flow.auto.used,
    ) in
    free_more flows c.args.side left used c.args.used.now k p q lt c.port_at-number.ensures inside
    (c.loop-flow.invariant q (omega (arith, in', length-set used p false)))

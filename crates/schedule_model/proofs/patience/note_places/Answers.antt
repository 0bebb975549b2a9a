use Rattle.std.proofs.Common.{◌≤◌, ◌<◌, length, get_or, arith, subst}
use Rattle.std.specs.Prelude.{◌↔◌}
use Rattle.std.proofs.lemmas.List.{length-set, take_all}
use Rattle.schedule_model.specs.Waiting.{ServesBy}
use Rattle.schedule_model.proofs.WaitSteps.{least_more}
use Rattle.schedule_model.proofs.patience.note_places.Goals as goal

pub loop-flow-preserved : goal.loop-flow-preserved
loop-flow-preserved c p m inside small =
    let flows = c.args.flows.now in
    let slot = c.args.slot.now in
    let k = c.loop-flow.flow-index in
    let q = c.port_at-port.result in
    let x = get_or slot k 0 in
    let lt = c.loop-flow-test.true in
    let there : q < length c.loop-flow.least =
    omega (
      arith,
      c.port_at-port.ensures,
      c.requires.ports x record { coflow = 0; ingress = 0; egress = 0; units = 0 } (c.requires.names k 0 lt),
      c.loop-flow.auto.least,
      c.fill.ensures.len,
    ) in
    least_more flows c.args.places.now slot c.loop-flow.least c.args.side k q p m c.min.result lt c.port_at-port.ensures there c.min.ensures
    (c.loop-flow.invariant p m (omega (arith, inside, length-set c.loop-flow.least q c.min.result)) small)

pub returns : goal.returns
returns c p m inside small =
    subst (λ s. (get_or c.loop-flow.least p 0 ≤ m) ↔ ServesBy c.args.flows.now c.args.places.now c.args.side s p m)
    (take_all c.loop-flow.flow-index c.args.slot.now c.loop-flow-test.false)
    (c.loop-flow.invariant p m (omega (arith, inside, c.loop-flow.auto.least, c.fill.ensures.len)) small)

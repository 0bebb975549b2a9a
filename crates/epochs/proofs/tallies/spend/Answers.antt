use Rattle.std.proofs.Common.{◌∙◌, ◌<◌, get_or, length, length-set, arith}
use Rattle.coflow_units.specs.declared.fabric.Flow.{Flow}
use Rattle.coflow_units.specs.Flows.{coflow_of}
use Rattle.epochs.proofs.Tallying.{owed_fits, spend_fits, spend_on}
use Rattle.epochs.proofs.tallies.spend.Goals as goal

pub index_mut-requires : goal.index_mut-requires
index_mut-requires c =
    let h = c.granted.invariant in
    omega (arith, h.tallied.each_flow, c.requires.flow c.granted.flow-index 0 c.granted-test.true)

pub overflow_sub-index_mut : goal.overflow_sub-index_mut
overflow_sub-index_mut c =
    let h = c.granted.invariant in
    let i = c.granted.flow-index in
    let lt = c.granted-test.true in
    spend_fits c.args.flows.now c.args.left.now.items c.granted.left.items c.granted.owed.items c.args.granted.now c.args.slots i 0 c.index_mut.result.now c.requires.ascending
    lt h.spent
    (c.requires.owes i 0 lt) (omega (arith, h.tallied.each_flow, c.requires.flow i 0 lt)) c.index_mut.ensures.value

pub index_mut-requires-in-granted : goal.index_mut-requires-in-granted
index_mut-requires-in-granted c =
    let none : Flow = record { coflow = 0; ingress = 0; egress = 0; units = 0 } in
    let h = c.granted.invariant in
    let i = c.granted.flow-index in
    let lt = c.granted-test.true in
    omega (arith, h.each, c.requires.within (get_or c.args.granted.now i 0) none (c.requires.flow i 0 lt))

pub overflow_sub-index_mut-in-granted : goal.overflow_sub-index_mut-in-granted
overflow_sub-index_mut-in-granted c =
    let none : Flow = record { coflow = 0; ingress = 0; egress = 0; units = 0 } in
    let h = c.granted.invariant in
    let i = c.granted.flow-index in
    let lt = c.granted-test.true in
    let below : coflow_of c.args.flows.now (get_or c.args.granted.now i 0) < length c.granted.owed.items =
    omega (arith, h.each, c.requires.within (get_or c.args.granted.now i 0) none (c.requires.flow i 0 lt)) in
    owed_fits c.args.flows.now c.args.left.now.items c.granted.left.items c.granted.owed.items c.args.granted.now c.args.slots i 0 c.index_mut-in-granted.result.now
    c.requires.ascending lt h.spent
    h.tallied (c.requires.owes i 0 lt) (c.requires.flow i 0 lt) below c.index_mut-in-granted.ensures.value

pub granted-preserved : goal.granted-preserved
granted-preserved c =
    let none : Flow = record { coflow = 0; ingress = 0; egress = 0; units = 0 } in
    let h = c.granted.invariant in
    let i = c.granted.flow-index in
    let lt = c.granted-test.true in
    let below : coflow_of c.args.flows.now (get_or c.args.granted.now i 0) < length c.granted.owed.items =
    omega (arith, h.each, c.requires.within (get_or c.args.granted.now i 0) none (c.requires.flow i 0 lt)) in
    let on = spend_on c.args.flows.now c.args.left.now.items c.granted.left.items c.granted.owed.items c.args.granted.now c.args.slots i 0 c.index_mut.result.now
    c.index_mut-in-granted.result.now
    c.requires.ascending lt h.spent h.tallied (c.requires.owes i 0 lt) (c.requires.flow i 0 lt) below c.index_mut.ensures.value c.index_mut-in-granted.ensures.value in
    record { tallied = on.0; each = length-set c.granted.owed.items _ _ ∙ h.each; spent = on.1 }

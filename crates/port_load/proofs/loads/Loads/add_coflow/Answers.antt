use Rattle.std.proofs.Common.{◌+◌, ◌<◌, length, refl, subst, sym, arith}
use Rattle.coflow_units.specs.declared.fabric.Side.TheVariants.{Ingress}
use Rattle.coflow_units.specs.Flows.{flow_at}
use Rattle.port_load.proofs.CoflowSteps.{added_all, added_at_most, added_more, added_none, added_others, added_paid, one_at_most, pending_at_most, total_at_most}
use Rattle.port_load.proofs.FlowSteps.{port_of}
use Rattle.port_load.proofs.loads.Loads.add_coflow.Goals as goal

pub loop-number-init : goal.loop-number-init
loop-number-init c =
    added_none c.args.self.now c.args.flows.now c.args.left.now c.args.starts.now c.args.coflow (record { ingress = 0; units = 0 }) refl c.requires.starts (omega (arith, c.requires.starts_len, c.requires.coflow_in))
    c.requires.none

pub loop-number-preserved-then-units-eq0 : goal.loop-number-preserved-then-units-eq0
loop-number-preserved-then-units-eq0 c =
    let k = c.loop-number.number in
    let end_in = c.requires.starts.within (c.args.coflow + 1) 0 (omega (arith, c.requires.starts_len, c.requires.coflow_in)) in
    let lt : k < length c.args.flows.now = omega (arith, c.loop-number-test.true, end_in) in
    added_paid c.args.self.now c.loop-number.self c.args.flows.now c.args.left.now c.args.coflow c.loop-number.pending k c.loop-number.invariant lt c.if-units-eq0.true

pub add_next-pending-requires-clause-units : goal.add_next-pending-requires-clause-units
add_next-pending-requires-clause-units c = λ port lp.
    let k = c.loop-number.number in
    let flows = c.args.flows.now in
    let left = c.args.left.now in
    let end_in = c.requires.starts.within (c.args.coflow + 1) 0 (omega (arith, c.requires.starts_len, c.requires.coflow_in)) in
    let lt : k < length left = omega (arith, c.loop-number-test.true, end_in, c.requires.left_len) in
    let most = added_at_most c.args.self.now c.loop-number.self flows left c.args.coflow c.loop-number.pending k c.loop-number.invariant c.requires.most in
    let total = total_at_most c.loop-number.self flows left most c.requires.left_len port lp in
    let pending = pending_at_most c.args.self.now c.loop-number.self flows left c.args.coflow c.loop-number.pending k c.loop-number.invariant c.requires.left_len in
    omega (arith, total, pending, one_at_most left k lt, c.requires.units)

pub loop-number-preserved : goal.loop-number-preserved
loop-number-preserved c =
    let k = c.loop-number.number in
    let flows = c.args.flows.now in
    let end_in = c.requires.starts.within (c.args.coflow + 1) 0 (omega (arith, c.requires.starts_len, c.requires.coflow_in)) in
    let lt : k < length flows = omega (arith, c.loop-number-test.true, end_in) in
    let of = c.requires.starts.own c.args.coflow k (omega (arith, c.requires.starts_len, c.requires.coflow_in)) c.loop-number.auto.number c.loop-number-test.true in
    let in' = subst (λ n. (flow_at flows k).ingress < n) (sym c.loop-number.invariant.size.ports) (c.requires.within.ingress k _ lt) in
    added_more c.args.self.now c.loop-number.self c.add_next-pending.new.self flows c.args.left.now c.args.coflow c.loop-number.pending c.add_next-pending.result k c.loop-number.invariant lt
    c.requires.coflow_in of (subst (λ n. n < c.loop-number.self.ports) (sym c.add_next-pending.ensures.ingress) in')
    c.add_next-pending.ensures.size c.add_next-pending.ensures.adds

pub add_pending-requires-clause-units : goal.add_pending-requires-clause-units
add_pending-requires-clause-units c = λ some.
    let l = c.loop-number in
    let flows = c.args.flows.now in
    let left = c.args.left.now in
    let lp = subst (λ n. l.pending.ingress < n) (sym l.invariant.size.ports) (l.invariant.ingress some) in
    let most = added_at_most c.args.self.now l.self flows left c.args.coflow l.pending l.number l.invariant c.requires.most in
    let total = total_at_most l.self flows left most c.requires.left_len (port_of Ingress l.pending.ingress) lp in
    omega (
      arith,
      total,
      pending_at_most c.args.self.now l.self flows left c.args.coflow l.pending l.number l.invariant c.requires.left_len,
      c.requires.units,
    )

pub returns-clause-own : goal.returns-clause-own
returns-clause-own c =
    added_all c.args.self.now c.loop-number.self c.add_pending.new.self c.args.flows.now c.args.left.now c.args.starts.now c.args.coflow c.loop-number.pending
    c.loop-number.number c.loop-number.invariant c.requires.starts (omega (arith, c.loop-number-test.false)) c.requires.coflow_in c.add_pending.ensures.adds

pub returns-clause-others : goal.returns-clause-others
returns-clause-others c =
    added_others c.args.self.now c.loop-number.self c.add_pending.new.self c.args.flows.now c.args.left.now c.args.coflow c.loop-number.pending c.loop-number.number
    c.loop-number.invariant c.add_pending.ensures.adds

use Rattle.std.proofs.Common.{◌≡◌, ◌^◌, ◌<◌, length, slice_index, take_all, ap, ◌∙◌, arith}
use Rattle.coflow_units.specs.Load.{load}
use Rattle.coflow_units.proofs.WhatIsLeft.{same_length}
use Rattle.port_load.proofs.FlowSteps.{fill_add, fill_fits, fill_paid, fill_skip, filled_within, flows_left}
use Rattle.port_load.proofs.loads.Loads.fill.Goals as goal

pub loop-number-preserved-then-units-eq0 : goal.loop-number-preserved-then-units-eq0
loop-number-preserved-then-units-eq0 c =
    let k = c.loop-number.number in
    let lt : k < length c.args.flows.now = omega arith in
    let paid : slice_index c.args.left.now k ≡ 0 = omega (arith, c.if-units-eq0.true) in
    fill_paid c.args.self.now c.loop-number.self c.args.flows.now c.args.left.now c.args.present.now k c.loop-number.invariant lt paid

pub loop-number-preserved-then-not-present-flow : goal.loop-number-preserved-then-not-present-flow
loop-number-preserved-then-not-present-flow c =
    let k = c.loop-number.number in
    let lt : k < length c.args.flows.now = omega arith in
    fill_skip c.args.self.now c.loop-number.self c.args.flows.now c.args.left.now c.args.present.now k c.loop-number.invariant lt c.if-not-present-flow.true

pub add-requires-clause-units : goal.add-requires-clause-units
add-requires-clause-units c = λ port lp.
    let k = c.loop-number.number in
    let lt : k < length c.args.flows.now = omega arith in
    omega (
      arith,
      fill_fits c.args.self.now c.loop-number.self c.args.flows.now c.args.left.now c.args.present.now k (2 ^ 62) c.loop-number.invariant lt c.requires.left_len
          c.requires.units port lp,
    )

pub loop-number-preserved : goal.loop-number-preserved
loop-number-preserved c =
    let k = c.loop-number.number in
    let lt : k < length c.args.flows.now = omega arith in
    fill_add c.args.self.now c.loop-number.self c.add.new.self c.args.flows.now c.args.left.now c.args.present.now k c.loop-number.invariant lt c.if-not-present-flow.false
    c.add.ensures.size c.add.ensures.adds

pub returns-clause-present_are : goal.returns-clause-present_are
returns-clause-present_are c = λ coflow port lc lp t.
    c.loop-number.invariant.present_are coflow port lc lp t
    ∙ ap (λ xs. load xs coflow port)
    (take_all c.loop-number.number (flows_left c.args.left.now c.args.flows.now) (omega (arith, same_length (λ f. slice_index c.args.left.now f) c.args.flows.now)))

pub returns-clause-totals_within : goal.returns-clause-totals_within
returns-clause-totals_within c =
    filled_within c.args.self.now c.loop-number.self c.args.flows.now c.args.left.now c.args.present.now c.loop-number.number c.loop-number.invariant (omega arith)
    c.requires.left_len

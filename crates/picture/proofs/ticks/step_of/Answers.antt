use Rattle.std.proofs.Common.{◌≡◌, ◌+◌, ◌-◌, ◌*◌, ◌^◌, suc, ap, sym, ◌∙◌, inr, arith}
use Rattle.picture.specs.Ticks.{step_from}
use Rattle.picture.proofs.TickSteps.{ended, found_five, found_one, found_two, goes_on, pow_more}
use Rattle.picture.proofs.ticks.step_of.Goals as goal

pub returns-then-count-power-clause-step : goal.returns-then-count-power-clause-step
returns-then-count-power-clause-step c =
    let one_left : 13 - c.loop.counter ≡ suc (12 - c.loop.counter) = omega arith in
    sym (ap (λ k. step_from k c.loop.power c.args.count) one_left ∙ found_one (12 - c.loop.counter) c.loop.power c.args.count (omega arith)) ∙ c.loop.invariant.same

pub returns-then-count-power-2-clause-step : goal.returns-then-count-power-2-clause-step
returns-then-count-power-2-clause-step c =
    let one_left : 13 - c.loop.counter ≡ suc (12 - c.loop.counter) = omega arith in
    sym (ap (λ k. step_from k c.loop.power c.args.count) one_left ∙ found_two (12 - c.loop.counter) c.loop.power c.args.count (omega arith) (omega arith)) ∙
    c.loop.invariant.same

pub returns-then-count-power-3-clause-step : goal.returns-then-count-power-3-clause-step
returns-then-count-power-3-clause-step c =
    let one_left : 13 - c.loop.counter ≡ suc (12 - c.loop.counter) = omega arith in
    sym (ap (λ k. step_from k c.loop.power c.args.count) one_left ∙ found_five (12 - c.loop.counter) c.loop.power c.args.count (omega arith) (omega arith)) ∙
    c.loop.invariant.same

pub loop-preserved : goal.loop-preserved
loop-preserved c =
    let one_left : 13 - c.loop.counter ≡ suc (13 - (c.loop.counter + 1)) = omega arith in
    record {
      same = sym (ap (λ k. step_from k c.loop.power c.args.count) one_left ∙ goes_on (13 - (c.loop.counter + 1)) c.loop.power c.args.count (omega arith)) ∙ c.loop.invariant.same;
      some = omega arith;
      power_is = ap (λ n. n * 10) c.loop.invariant.power_is ∙ sym (pow_more c.loop.counter);
      low = inr (omega arith);
    }

pub returns-clause-step : goal.returns-clause-step
returns-clause-step c =
    let none_left : 13 - c.loop.counter ≡ 0 = omega arith in
    sym (ap (λ k. step_from k c.loop.power c.args.count) none_left ∙ ended c.loop.power c.args.count) ∙ c.loop.invariant.same

pub returns-clause-few : goal.returns-clause-few
returns-clause-few c =
    let rounds : c.loop.counter ≡ 13 = omega arith in
    let power : c.loop.power ≡ 10 ^ 13 = c.loop.invariant.power_is ∙ ap (λ k. 10 ^ k) rounds in
    omega (arith, power, c.requires)

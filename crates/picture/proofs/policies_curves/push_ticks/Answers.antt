use Rattle.std.proofs.Common.{◌≡◌, ℕ, ◌+◌, ◌*◌, ◌/◌, ◌++◌, ap, ◌∙◌, arith, zero-add}
use Rattle.std.specs.List.{flat_map, range_with_len}
use Rattle.picture.specs.PoliciesSvg.{decade_tick, decades}
use Rattle.picture.specs.Ticks.{step_of}
use Rattle.picture.proofs.TextSteps.{number_more}
use Rattle.picture.proofs.policies_curves.push_ticks.Goals as goal

pub loop-turn-preserved : goal.loop-turn-preserved
loop-turn-preserved c =
    number_more (λ k. decade_tick c.args.picture.now (k * c.step_of-step.result)) 0 c.loop-turn.turn c.loop-turn.turn c.args.text.now.items c.loop-turn.text.items
    c.push_tick.new.text.items (zero-add c.loop-turn.turn) c.loop-turn.invariant c.in_ok-push_tick.ensures

pub returns : goal.returns
returns c =
    let t = c.args.text.now.items in
    let p = c.args.picture.now in
    let powers = c.decades-powers.result in
    let step = c.step_of-step.result in
    let is : step ≡ step_of (decades p) = c.step_of-step.ensures.step ∙ ap step_of c.decades-powers.ensures.count in
    let whole : c.loop-turn.turn ≡ powers / step + 1 = omega (arith, c.loop-turn-test.false, c.loop-turn.auto.turn-end) in
    c.loop-turn.invariant ∙ (ap (λ (n : ℕ). t ++ flat_map (λ k. decade_tick p (k * step)) (range_with_len 0 n)) whole ∙
    (ap (λ (s : ℕ). t ++ flat_map (λ k. decade_tick p (k * s)) (range_with_len 0 (powers / s + 1))) is ∙
    ap (λ (n : ℕ). t ++ flat_map (λ k. decade_tick p (k * step_of (decades p))) (range_with_len 0 (n / step_of (decades p) + 1))) c.decades-powers.ensures.count))

use Rattle.std.proofs.Common.{◌≡◌, ℕ, ◌+◌, ◌*◌, ◌/◌, ◌++◌, ap, ◌∙◌, arith, zero-add}
use Rattle.std.specs.List.{flat_map, range_with_len}
use Rattle.picture.specs.PoliciesSvg.{octave_tick}
use Rattle.picture.proofs.TextSteps.{number_more}
use Rattle.picture.proofs.policies_bars.push_ticks.Goals as goal

pub loop-turn-preserved : goal.loop-turn-preserved
loop-turn-preserved c =
    number_more (λ k. octave_tick c.args.powers (k * c.step_of-step.result)) 0 c.loop-turn.turn c.loop-turn.turn c.args.text.now.items c.loop-turn.text.items
    c.push_tick.new.text.items (zero-add c.loop-turn.turn) c.loop-turn.invariant c.in_ok-push_tick.ensures

pub returns : goal.returns
returns c =
    let t = c.args.text.now.items in
    let powers = c.args.powers in
    let step = c.step_of-step.result in
    let whole : c.loop-turn.turn ≡ powers / step + 1 = omega (arith, c.loop-turn-test.false, c.loop-turn.auto.turn-end) in
    c.loop-turn.invariant ∙ (ap (λ (n : ℕ). t ++ flat_map (λ k. octave_tick powers (k * step)) (range_with_len 0 n)) whole ∙
    ap (λ (s : ℕ). t ++ flat_map (λ k. octave_tick powers (k * s)) (range_with_len 0 (powers / s + 1))) c.step_of-step.ensures.step)

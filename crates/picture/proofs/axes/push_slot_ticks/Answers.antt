use Rattle.std.proofs.Common.{◌≡◌, ℕ, List, ◌++◌, ◌*◌, ◌+◌, ◌-◌, ◌/◌, ap, ◌∙◌, arith}
use Rattle.std.specs.Int.{div_ceil}
use Rattle.std.specs.List.{flat_map, range_with_len}
use Rattle.std.proofs.Math.Nat.{mul-le-mul_right}
use Rattle.std.proofs.lemmas.Grind.{div_ceil_times}
use Rattle.picture.specs.Svg.{slot_tick}
use Rattle.picture.proofs.TextSteps.{number_more}
use Rattle.picture.proofs.axes.push_slot_ticks.Goals as goal

pub push_slot_tick-requires-clause-from : goal.push_slot_tick-requires-clause-from
push_slot_tick-requires-clause-from c =
    omega (
      arith,
      (div_ceil_times c.args.span.first c.args.step c.requires.step).0,
      mul-le-mul_right c.args.step c.loop-turn.invariant.from,
    )

pub loop-turn-preserved : goal.loop-turn-preserved
loop-turn-preserved c =
    let first = div_ceil c.args.span.first c.args.step in
    let piece : ℕ → List ℕ = λ k. slot_tick c.args.span c.args.end (k * c.args.step) in
    let step = number_more piece first (c.loop-turn.turn - first) c.loop-turn.turn c.args.text.now.items c.loop-turn.text.items c.push_slot_tick.new.text.items
    (omega (arith, c.loop-turn.invariant.from)) c.loop-turn.invariant.text_is c.in_ok-push_slot_tick.ensures in
    let grown : c.loop-turn.turn - first + 1 ≡ c.loop-turn.turn + 1 - first = omega (arith, c.loop-turn.invariant.from) in
    record {
      text_is = step ∙ ap (λ n. c.args.text.now.items ++ flat_map piece (range_with_len first n)) grown;
      from = omega (arith, c.loop-turn.invariant.from);
      upto = omega (arith, c.loop-turn.invariant.from);
    }

pub returns : goal.returns
returns c =
    let first = div_ceil c.args.span.first c.args.step in
    let piece : ℕ → List ℕ = λ k. slot_tick c.args.span c.args.end (k * c.args.step) in
    let whole : c.loop-turn.turn - first ≡ c.args.span.last / c.args.step + 1 - first =
    omega (arith, c.loop-turn.invariant.from, c.loop-turn.invariant.upto) in
    c.loop-turn.invariant.text_is ∙ ap (λ n. c.args.text.now.items ++ flat_map piece (range_with_len first n)) whole

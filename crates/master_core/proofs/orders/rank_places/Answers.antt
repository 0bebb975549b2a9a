-- One place after another.
use Rattle.std.proofs.Common.{◌≡◌, ◌+◌, ◌∙◌, arith, get_or, length, subst}
use Rattle.std.proofs.lemmas.List.{length-set}
use Rattle.coflow_units.specs.declared.fabric.Side.TheVariants.{Ingress}
use Rattle.coflow_units.specs.declared.plan.Place.{Place}
use Rattle.master_core.specs.Published.{ranked}
use Rattle.master_core.proofs.RankSteps.{RanksSoFar, place_at, ranked_len, ranks_all, ranks_more, ranks_none}
use Rattle.master_core.proofs.orders.rank_places.Goals as goal

pub loop-number-init : goal.loop-number-init
loop-number-init c = record {
  len = c.fill.ensures.len;
  so_far = ranks_none (ranked c.args.places.now) c.fill.new.self (length c.args.ranks.now) (c.fill.ensures.after (λ y e. e));
}

pub loop-number-preserved : goal.loop-number-preserved
loop-number-preserved c =
    let n = c.loop-number.number in
    let places = c.args.places.now in
    let none : Place = record { coflow = 0; port = record { side = Ingress; number = 0 }; y = 0; rest = 0; load = 0 } in
    let x = (get_or places n none).coflow in
    let low = c.requires.coflow n none c.loop-number-test.true in
    record {
      len = length-set c.loop-number.ranks x (n + 1) ∙ c.loop-number.invariant.len;
      so_far = ranks_more (ranked places) c.loop-number.ranks n x c.loop-number.invariant.so_far c.requires.once (omega (arith, ranked_len places, c.loop-number-test.true))
          (place_at places n none c.loop-number-test.true)
          (omega (arith, low, c.loop-number.invariant.len));
    }

pub returns : goal.returns
returns c = λ coflow lt.
    let end : c.loop-number.number ≡ length (ranked c.args.places.now) = omega (arith, ranked_len c.args.places.now, c.loop-number-test.false, c.loop-number.auto.number-end) in
    ranks_all (ranked c.args.places.now) c.loop-number.ranks coflow (subst (λ k. RanksSoFar (ranked c.args.places.now) c.loop-number.ranks k) end c.loop-number.invariant.so_far)
    (omega (arith, lt, c.loop-number.invariant.len))

use Rattle.std.proofs.Common.{◌≡◌, ◌+◌, ◌<◌, List, Bool, true, false, get_or, length, refl, sym, ap, subst, ◌∙◌, arith}
use Rattle.rankers.specs.Scores.{IsFirstUnfit}
use Rattle.rankers.proofs.OrderPermutations.{new_is_permutation, repeated_unfit, seen_more}
use Rattle.rankers.proofs.scoring.first_unfit.Goals as goal

pub returns-then-repeated : goal.returns-then-repeated
returns-then-repeated c =
    let order = c.args.order.now in
    let place = c.loop-place.place in
    let number = get_or order place 0 in
    let known : number < length order = omega (arith, c.requires, c.if-number-coflows.false) in
    let old : get_or c.loop-place.seen.items number false ≡ true = ap (λ (xs : List Bool). get_or xs number false) (sym c.deref.ensures.value) ∙ sym c.is_marked-repeated.ensures ∙
    c.if-repeated.true in
    subst (λ n. IsFirstUnfit n order (place + 1)) c.requires
    (repeated_unfit order c.loop-place.seen.items place number c.loop-place.invariant (omega (arith, c.loop-place-test.true)) refl known old)

pub loop-place-preserved : goal.loop-place-preserved
loop-place-preserved c =
    let order = c.args.order.now in
    let place = c.loop-place.place in
    let number = get_or order place 0 in
    let known : number < length order = omega (arith, c.requires, c.if-number-coflows.false) in
    let new : get_or c.loop-place.seen.items number false ≡ false = ap (λ (xs : List Bool). get_or xs number false) (sym c.deref.ensures.value) ∙ sym c.is_marked-repeated.ensures ∙
    c.if-repeated.false in
    seen_more order c.loop-place.seen.items place number c.loop-place.invariant (omega (arith, c.loop-place-test.true)) refl known new

pub returns : goal.returns
returns c = new_is_permutation c.args.order.now (λ k lt. c.loop-place.invariant.new k (omega (arith, lt, c.loop-place-test.false)))

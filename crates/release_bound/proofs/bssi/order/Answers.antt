use Rattle.std.proofs.Common.{◌≡◌, [], drop, length-take-le, reverse, true, subst, sym, ap, ◌∙◌, arith}
use Rattle.std.specs.Prelude.{replicate}
use Rattle.bssi_order.specs.Step.{Stands}
use Rattle.bssi_order.proofs.BeginSteps.{length_part, take_front}
use Rattle.release_bound.specs.ReleaseOrder.{IsReleasedBy}
use Rattle.release_bound.proofs.ReleaseSteps.{stands_first}
use Rattle.release_bound.proofs.bssi.order.Goals as goal

pub returns-clause-order : goal.returns-clause-order
returns-clause-order c = λ i arrival of.
    let n = c.coflows-coflows.ensures.coflows_are in
    let t = c.args.loads.now in
    let marks : c.fill.new.self ≡ replicate t.coflows true = c.fill.ensures.after (λ y e. e) ∙
    ap (λ k. replicate k true) (length-take-le c.coflows-coflows.result c.args.waiting.now (omega (arith, n, c.requires.waiting_len)) ∙ n) in
    let stands = stands_first i arrival t c.args.weights.now c.args.arrivals.now c.give_budgets.new.residuals of
    (λ k lt. c.give_budgets.ensures k (omega (arith, lt, c.requires.weights_len))) in
    let order = c.place_all.ensures.order i arrival (subst (λ w. Stands i [] i.coflows t c.give_budgets.new.residuals w) (sym marks) stands)
    (λ k lt. of.arrives k (omega (arith, lt, c.requires.arrivals_len))) in
    let filled = take_front c.coflows-coflows.result c.place_all.new.places (drop c.coflows-coflows.result c.args.places.now)
    (length_part c.coflows-coflows.result c.place_all.new.places c.args.places.now c.place_all.auto.places (omega (arith, n, c.requires.room))) in
    subst (λ l. IsReleasedBy c.args.by i arrival (reverse l)) (sym filled) order

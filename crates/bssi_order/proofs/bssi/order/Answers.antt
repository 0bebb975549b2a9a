use Rattle.std.proofs.Common.{[], drop, subst, sym, arith}
use Rattle.bssi_order.specs.Order.{IsOrder}
use Rattle.bssi_order.specs.Step.{IsReady, Stands}
use Rattle.bssi_order.proofs.BeginSteps.{IsBegun, length_part, ready_first, stands_first, take_front}
use Rattle.bssi_order.proofs.bssi.order.Goals as goal

pub place_all-requires-clause-ready : goal.place_all-requires-clause-ready
place_all-requires-clause-ready c =
    let begun : IsBegun c.args.loads.now c.drop_absent.new.loads c.args.weights.now c.give_budgets.new.residuals c.args.present.now = record {
      size = c.drop_absent.ensures.size;
      coflows_limit = omega (arith, c.coflows-coflows.ensures.limit);
      present_len = c.requires.present_len;
      residuals_len = omega (arith, length_part c.coflows-coflows.result c.give_budgets.new.residuals c.args.residuals.now c.give_budgets.auto.residuals (omega arith));
      weights_fit = λ k lt. c.requires.weights_fit k 0 (omega arith);
      totals_fit = c.requires.totals_fit;
      stay = c.drop_absent.ensures.present_stay;
      gone = c.drop_absent.ensures.absent_go;
      budgets = λ k lt. c.give_budgets.ensures k (omega arith);
    } in
    subst (λ w. IsReady c.drop_absent.new.loads c.give_budgets.new.residuals w) (sym c.copy_from_slice.ensures.after)
    (ready_first c.args.loads.now c.drop_absent.new.loads c.args.weights.now c.give_budgets.new.residuals c.args.present.now begun)

pub returns-clause-order : goal.returns-clause-order
returns-clause-order c = λ i of.
    let begun : IsBegun c.args.loads.now c.drop_absent.new.loads c.args.weights.now c.give_budgets.new.residuals c.args.present.now = record {
      size = c.drop_absent.ensures.size;
      coflows_limit = omega (arith, c.coflows-coflows.ensures.limit);
      present_len = c.requires.present_len;
      residuals_len = omega (arith, length_part c.coflows-coflows.result c.give_budgets.new.residuals c.args.residuals.now c.give_budgets.auto.residuals (omega arith));
      weights_fit = λ k lt. c.requires.weights_fit k 0 (omega arith);
      totals_fit = c.requires.totals_fit;
      stay = c.drop_absent.ensures.present_stay;
      gone = c.drop_absent.ensures.absent_go;
      budgets = λ k lt. c.give_budgets.ensures k (omega arith);
    } in
    let stands = stands_first i c.args.loads.now c.drop_absent.new.loads c.args.weights.now c.give_budgets.new.residuals c.args.present.now of begun in
    let order = c.place_all.ensures.order i (subst (λ w. Stands i [] i.coflows c.drop_absent.new.loads c.give_budgets.new.residuals w) (sym c.copy_from_slice.ensures.after) stands)
    in
    let filled = take_front c.count_present-count.result c.place_all.new.places (drop c.count_present-count.result c.args.places.now)
    (length_part c.count_present-count.result c.place_all.new.places c.args.places.now c.place_all.auto.places (omega arith)) in
    subst (IsOrder i) (sym filled) order

use Rattle.std.proofs.Common.{subst}
use Rattle.std.specs.Prelude.{MatchOption}
use Rattle.class_rates.specs.Classes.{IsPermutation}
use Rattle.rankers.specs.Scores.{IsFirstUnfit}
use Rattle.rankers.proofs.ServedOrders.{served_names, served_order, unfit_of_table}
use Rattle.rankers.proofs.TableEnds.{AreEnds, ends_are, ends_count}
use Rattle.rankers.proofs.scoring.serve.Goals as goal

pub returns-in-Some-clause-came : goal.returns-in-Some-clause-came
returns-in-Some-clause-came c = λ weights.
    let n = c.coflows-coflows.result in
    let order = c.args.order.now in
    let unfit : IsFirstUnfit n order c.in-Some.place =
    subst (λ place. MatchOption place (IsPermutation order) (λ k. IsFirstUnfit n order k)) c.in-Some.is c.in_ok-place.ensures in
    unfit_of_table c.args.table.now n order c.in-Some.place c.coflows-coflows.ensures.coflows unfit

pub completions-requires : goal.completions-requires
completions-requires c =
    served_names c.args.table.now c.args.order.now c.in_ok-schedule.schedule c.flows.result.now c.flows.ensures.flows c.in_ok-schedule.ensures

pub returns-clause-came : goal.returns-clause-came
returns-clause-came c = λ weights.
    let t = c.args.table.now in
    let slots = c.in_ok-schedule.schedule in
    let are : AreEnds t slots c.from_vec.result = ends_are t c.flows.result.now slots c.coflows-coflows.result c.in_ok-ends.ends.items c.from_vec.result
    c.flows.ensures.flows c.coflows-coflows.ensures.coflows c.in_ok-ends.ensures c.from_vec.ensures in
    let permutation : IsPermutation c.args.order.now =
    subst (λ place. MatchOption place (IsPermutation c.args.order.now) (λ k. IsFirstUnfit c.coflows-coflows.result c.args.order.now k)) c.in_default.is c.in_ok-place.ensures in
    (slots, served_order t weights c.args.order.now slots c.requires permutation c.in_ok-schedule.ensures, are)

pub returns-clause-each : goal.returns-clause-each
returns-clause-each c =
    let t = c.args.table.now in
    let slots = c.in_ok-schedule.schedule in
    ends_count t slots c.from_vec.result (ends_are t c.flows.result.now slots c.coflows-coflows.result c.in_ok-ends.ends.items c.from_vec.result
    c.flows.ensures.flows c.coflows-coflows.ensures.coflows c.in_ok-ends.ensures c.from_vec.ensures)

use Rattle.std.proofs.Common.{◌≡◌, ◌<◌, ℕ, List, Contains, length, sym, ap, subst, ◌∙◌}
use Rattle.std.specs.Prelude.{All}
use Rattle.class_rates.specs.Classes.{class_of}
use Rattle.coflow_units.specs.declared.fabric.Flow.{Flow}
use Rattle.coflow_units.specs.Served.{IsServed}
use Rattle.rankers.proofs.ClassFacts.{line_all, line_known, served_names}
use Rattle.rankers.proofs.TableEnds.{AreEnds, ends_are, ends_cost, ends_count}
use Rattle.rankers.proofs.classing.class_list.Goals.{In_ok-ends}
use Rattle.rankers.proofs.classing.class_list.Goals as goal

pub simulate-requires-clause-known : goal.simulate-requires-clause-known
simulate-requires-clause-known c = subst (All (λ n. n < length c.args.table.now.ids)) (sym c.class_order.ensures.order)
    (line_known c.args.classes.now.order (class_of c.args.classes.now) (length c.args.classes.now.numbers) (length c.args.table.now.ids) c.requires.classes
    c.class_order.ensures.classes.order_is)

pub simulate-requires-clause-all : goal.simulate-requires-clause-all
simulate-requires-clause-all c = λ n lt. subst (λ (xs : List ℕ). Contains xs n) (sym c.class_order.ensures.order)
    (line_all c.args.classes.now.order (class_of c.args.classes.now) (length c.args.classes.now.numbers) (length c.args.table.now.ids) c.requires.classes
    c.class_order.ensures.classes.order_is n lt)

pub completions-requires : goal.completions-requires
completions-requires c =
    subst (λ n. All (All (λ f. f < n)) c.in_ok-schedule.schedule) (ap (λ (xs : List Flow). length xs) (sym c.flows.ensures.flows))
    (served_names c.args.table.now.flows c.class_order.result.now c.in_ok-schedule.schedule c.in_ok-schedule.ensures)

known : (c : In_ok-ends) (ends : List ℕ) → ends ≡ c.in_ok-ends.ends.items → AreEnds c.args.table.now c.in_ok-schedule.schedule ends
known c ends read = ends_are c.args.table.now c.flows.result.now c.in_ok-schedule.schedule c.coflows.result c.in_ok-ends.ends.items ends c.flows.ensures.flows
    c.coflows.ensures.coflows c.in_ok-ends.ensures read

pub cost_of-cost-requires-clause-each : goal.cost_of-cost-requires-clause-each
cost_of-cost-requires-clause-each c =
    let are = known (goal.at.cost_of-cost-requires-clause-each c).In_ok-ends c.deref.result.now c.deref.ensures.value in
    ends_count c.args.table.now c.in_ok-schedule.schedule c.deref.result.now are ∙ sym c.requires.count

pub returns-clause-list : goal.returns-clause-list
returns-clause-list c =
    let t = c.args.table.now in
    let are = known (goal.at.returns-clause-list c).In_ok-ends c.deref.result.now c.deref.ensures.value in
    record {
      slots = c.in_ok-schedule.schedule;
      served = subst (λ (l : List ℕ). IsServed t.flows l c.in_ok-schedule.schedule) c.class_order.ensures.order c.in_ok-schedule.ensures;
      members_are = c.from_vec.ensures ∙ c.in_ok-members.ensures;
      cap_is = c.in_ok-cap.ensures;
      cost_is = ends_cost t c.args.weights.now c.in_ok-schedule.schedule c.deref.result.now c.cost_of-cost.result c.requires.count are c.cost_of-cost.ensures.cost;
      runs_are = c.into_runs.ensures.runs;
    }

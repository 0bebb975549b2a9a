use Rattle.std.proofs.Common.{◌≡◌, subst, rules}
use Rattle.flow_table.specs.Table.{instance_of}
use Rattle.rankers.specs.Scores.{IsCame}
use Rattle.rankers.proofs.ToldOrders.{second_ends_are}
use Rattle.rankers.proofs.ending.came_of.Goals as goal

pub returns-then-eq : goal.returns-then-eq
returns-then-eq g c =
    let i = instance_of c.args.table.now c.args.facts.now.weights in
    let same : c.ask.new.order ≡ c.ask-2.new.order = search rules in
    second_ends_are i c.args.facts.now _ _ _ c.ask.new.order c.ask-2.new.order c.in_ok-first.first c.ask.ensures.answer c.ask.ensures.asked
    (c.in_ok-first.ensures.told c.args.facts.now.weights) c.ask-2.ensures.answer
    (subst (λ o. IsCame i o c.in_ok-first.first) same (c.in_ok-first.ensures.came c.args.facts.now.weights))

pub returns : goal.returns
returns g c =
    let i = instance_of c.args.table.now c.args.facts.now.weights in
    second_ends_are i c.args.facts.now _ _ _ c.ask.new.order c.ask-2.new.order c.in_ok-second.second c.ask.ensures.answer c.ask.ensures.asked
    (c.in_ok-first.ensures.told c.args.facts.now.weights) c.ask-2.ensures.answer (c.in_ok-second.ensures.came c.args.facts.now.weights)

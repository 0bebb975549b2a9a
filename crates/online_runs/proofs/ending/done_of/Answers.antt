use Rattle.std.proofs.Common.{◌∙◌, length, sym}
use Rattle.coflow_units.specs.Completion.{completion}
use Rattle.cert_check.proofs.EndFacts.{cost_is, count_of, ends_are}
use Rattle.online_runs.proofs.Endings.{lines_of}
use Rattle.online_runs.proofs.ending.done_of.Goals as goal

pub done_lines-requires : goal.done_lines-requires
done_lines-requires c =
    let t = c.args.table.now in
    let of = ends_are t.flows c.flows.result.now c.args.schedule.now c.in_ok-ends.ends.items c.deref.result.now (length t.ids) c.coflows.result c.flows.ensures.flows
    c.coflows.ensures.coflows c.deref.ensures.value c.in_ok-ends.ensures in
    count_of c.deref.result.now (completion t.flows c.args.schedule.now) (length t.ids) of

pub cost_of-cost-requires-clause-each : goal.cost_of-cost-requires-clause-each
cost_of-cost-requires-clause-each c =
    let t = c.args.table.now in
    let of = ends_are t.flows c.flows.result.now c.args.schedule.now c.in_ok-ends.ends.items c.deref-2.result.now (length t.ids) c.coflows.result c.flows.ensures.flows
    c.coflows.ensures.coflows c.deref-2.ensures.value c.in_ok-ends.ensures in
    count_of c.deref-2.result.now (completion t.flows c.args.schedule.now) (length t.ids) of ∙ sym c.requires.weight_each

pub returns-clause-lines : goal.returns-clause-lines
returns-clause-lines c =
    let t = c.args.table.now in
    let of = ends_are t.flows c.flows.result.now c.args.schedule.now c.in_ok-ends.ends.items c.deref.result.now (length t.ids) c.coflows.result c.flows.ensures.flows
    c.coflows.ensures.coflows c.deref.ensures.value c.in_ok-ends.ensures in
    c.in_ok-lines.ensures ∙ lines_of t.flows c.args.schedule.now c.deref.result.now t.ids (length t.ids) of

pub returns-clause-cost : goal.returns-clause-cost
returns-clause-cost c =
    let t = c.args.table.now in
    let of = ends_are t.flows c.flows.result.now c.args.schedule.now c.in_ok-ends.ends.items c.deref-2.result.now (length t.ids) c.coflows.result c.flows.ensures.flows
    c.coflows.ensures.coflows c.deref-2.ensures.value c.in_ok-ends.ensures in
    cost_is t.flows c.args.schedule.now c.args.weights.now c.deref-2.result.now (length t.ids) c.cost_of-cost.result of c.requires.weight_each
    (c.cost_of-cost.ensures.cost t.flows c.args.schedule.now)

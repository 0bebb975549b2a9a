use Rattle.std.proofs.Common.{◌≡◌, ◌<◌, List, ℕ, Some, length, subst, sym, ap, refl, ◌∙◌}
use Rattle.std.specs.Prelude.{All}
use Rattle.cert_check.proofs.EndFacts.{AreOf, cost_is, count_of, ends_are}
use Rattle.coflow_units.specs.Completion.{completion}
use Rattle.coflow_units.specs.declared.plan.Place.{Place}
use Rattle.plans.proofs.CertificateFacts.{each_place_within}
use Rattle.report_text.specs.declared.value.PlaceLine.{PlaceLine}
use Rattle.plans.proofs.PlaceSteps.{same_lines}
use Rattle.plans.proofs.ServedFacts.{served_is_report, served_is_small}
use Rattle.plans.proofs.PlanSteps.{slots_hold_flows}
use Rattle.plans.proofs.planning.report_from.Goals.{In_ok-ends}
use Rattle.plans.proofs.planning.report_from.Goals as goal

pub completions-requires : goal.completions-requires
completions-requires c =
    subst (λ n. All (All (λ f. f < n)) c.args.schedule) (ap (λ xs. length xs) (sym c.flows.ensures.flows))
    (slots_hold_flows c.args.table.now.flows c.requires.served.0 c.args.schedule c.requires.served.1)

-- the completions, as they are lent
lent : (c : In_ok-ends) (ends : List ℕ) → ends ≡ c.in_ok-ends.ends.items → AreOf ends (completion c.args.table.now.flows c.args.schedule) (length c.args.table.now.ids)
lent c ends read =
    ends_are c.args.table.now.flows c.flows.result.now c.args.schedule c.in_ok-ends.ends.items ends (length c.args.table.now.ids) c.coflows.result
    c.flows.ensures.flows c.coflows.ensures.coflows read c.in_ok-ends.ensures

pub place_lines-requires-clause-coflow : goal.place_lines-requires-clause-coflow
place_lines-requires-clause-coflow c = each_place_within c.args.table.now c.args.weights.now c.args.places.now c.requires.order

pub place_lines-requires-clause-ends : goal.place_lines-requires-clause-ends
place_lines-requires-clause-ends c =
    let are = lent (goal.at.place_lines-requires-clause-ends c).In_ok-ends c.deref.result.now c.deref.ensures.value in
    count_of c.deref.result.now (completion c.args.table.now.flows c.args.schedule) (length c.args.table.now.ids) are

pub cost_of-cost-requires-clause-each : goal.cost_of-cost-requires-clause-each
cost_of-cost-requires-clause-each c =
    let are = lent (goal.at.cost_of-cost-requires-clause-each c).In_ok-ends c.deref-2.result.now c.deref-2.ensures.value in
    count_of c.deref-2.result.now (completion c.args.table.now.flows c.args.schedule) (length c.args.table.now.ids) are ∙ sym c.requires.count

pub place_weights-requires : goal.place_weights-requires
place_weights-requires c = record {
  coflow = subst (λ n. All (λ (x : Place). x.coflow < n) c.args.places.now) (sym c.requires.count)
      (each_place_within c.args.table.now c.args.weights.now c.args.places.now c.requires.order);
}

pub returns-clause-served : goal.returns-clause-served
returns-clause-served c = λ line serves.
    let flows = c.args.table.now.flows in
    let ids = c.args.table.now.ids in
    let places = c.args.places.now in
    let stated = lent (goal.at.returns-clause-served c).In_ok-ends c.deref.result.now c.deref.ensures.value in
    let priced = lent (goal.at.returns-clause-served c).In_ok-ends c.deref-2.result.now c.deref-2.ensures.value in
    let within = each_place_within c.args.table.now c.args.weights.now places c.requires.order in (
      record {
        order = places;
        ordering = c.requires.order;
        slots = c.args.schedule;
        served = serves;
        places = c.from_vec.ensures ∙ c.in_ok-lines.ensures.lines ∙ same_lines ids flows c.args.schedule c.deref.result.now (length ids) places stated within;
        weights = ap Some (c.from_vec-2.ensures ∙ c.in_ok-list.ensures);
        bound_is = c.in_ok-values.ensures.bound;
        slack_is = c.in_ok-values.ensures.slack;
        cost_is = cost_is flows c.args.schedule c.args.weights.now c.deref-2.result.now (length ids) c.cost_of-cost.result priced c.requires.count
            (c.cost_of-cost.ensures.cost flows c.args.schedule);
        runs = c.into_runs.ensures.runs;
      },
      refl,
      refl,
    )

pub returns-clause-report : goal.returns-clause-report
returns-clause-report c =
    let (line, serves) = c.requires.served in
    served_is_report c.args.table.now c.args.weights.now line _ (returns-clause-served c line serves).0
    (record { table = c.flows.ensures.table; count = c.requires.count; least = c.requires.least; most = c.requires.weights })

pub returns-clause-small : goal.returns-clause-small
returns-clause-small c =
    let (line, serves) = c.requires.served in
    let ids = subst (All (λ (x : PlaceLine). x.id < 4294967296)) (sym c.from_vec.ensures) c.in_ok-lines.ensures.ids in
    served_is_small c.args.table.now c.args.weights.now line _ (returns-clause-served c line serves).0
    (record { table = c.flows.ensures.table; count = c.requires.count; least = c.requires.least; most = c.requires.weights }) ids

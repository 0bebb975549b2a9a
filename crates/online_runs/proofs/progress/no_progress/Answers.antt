use Rattle.std.proofs.Common.{◌≡◌, ◌∙◌, ◌<◌, map, length, sym, subst, ap, arith}
use Rattle.std.specs.Prelude.{All, sum}
use Rattle.std.proofs.lemmas.List.{length-map}
use Rattle.std.proofs.lemmas.List.Sums.{sum-map}
use Rattle.coflow_units.specs.declared.fabric.Flow.{Flow}
use Rattle.epochs.specs.Tallies.{IsTallied}
use Rattle.online_runs.proofs.progress.no_progress.Goals as goal

pub units_of_coflows-requires-clause-len : goal.units_of_coflows-requires-clause-len
units_of_coflows-requires-clause-len c =
    ap length (c.deref.ensures.value ∙ c.in_ok-left.ensures) ∙ length-map c.flows.result.now (λ (x : Flow). x.units) ∙ ap length c.flows.ensures.flows ∙ sym
    (ap length c.flows-2.ensures.flows)

pub units_of_coflows-requires-clause-within : goal.units_of_coflows-requires-clause-within
units_of_coflows-requires-clause-within c =
    subst (λ fs. All (λ (x : Flow). x.coflow < c.coflows.result) fs) (sym c.flows-2.ensures.flows)
    (subst (λ n. All (λ (x : Flow). x.coflow < n) c.args.table.now.flows) (sym c.coflows.ensures.coflows) c.flows-2.ensures.table.coflow)

pub units_of_coflows-requires-clause-units : goal.units_of_coflows-requires-clause-units
units_of_coflows-requires-clause-units c =
    let same : c.deref.result.now ≡ map (λ (x : Flow). x.units) c.args.table.now.flows =
    c.deref.ensures.value ∙ c.in_ok-left.ensures ∙ ap (map (λ (x : Flow). x.units)) c.flows.ensures.flows in
    omega (arith, sum-map (λ (x : Flow). x.units) c.args.table.now.flows, ap sum same, c.flows-2.ensures.table.few_units)

pub returns-clause-left : goal.returns-clause-left
returns-clause-left c = c.in_ok-left.ensures ∙ ap (map (λ (x : Flow). x.units)) c.flows.ensures.flows

pub returns-clause-each : goal.returns-clause-each
returns-clause-each c = c.in_ok-owed.ensures.each ∙ c.coflows.ensures.coflows

pub returns-clause-owed : goal.returns-clause-owed
returns-clause-owed c =
    subst (λ l. IsTallied c.args.table.now.flows l c.in_ok-owed.owed.items) c.deref.ensures.value
    (subst (λ fs. IsTallied fs c.deref.result.now c.in_ok-owed.owed.items) c.flows-2.ensures.flows c.in_ok-owed.ensures.tallied)

use Rattle.std.proofs.Common.{◌≡◌, ◌<◌, length, ap, subst, sym, ◌∙◌, arith}
use Rattle.std.specs.Prelude.{All, Some}
use Rattle.coflow_units.specs.Completion.{completion}
use Rattle.coflow_units.specs.Schedule.{IsValid}
use Rattle.schedule_model.specs.RunList.{slots_in}
use Rattle.schedule_model.proofs.ValidSteps.{valid_names}
use Rattle.cert_check.specs.Places.{ends_in}
use Rattle.cert_check.specs.Parts.{IsFirstFrom}
use Rattle.cert_check.specs.Reasons.{schedule_kind}
use Rattle.cert_check.specs.Stated.{AreReal, IsLeastWrong}
use Rattle.flow_table.specs.Table.{instance_of}
use Rattle.cert_check.proofs.EndFacts.{cost_is, count_of, ends_are, fault_along, least_along, real_along}
use Rattle.cert_check.proofs.SlotSteps.{runs_kept}
use Rattle.cert_check.proofs.Firsts.{first_broken_ratio, first_fault, first_wrong_cost, first_wrong_end}
use Rattle.cert_check.proofs.schedule.wrong_schedule.Goals as goal

pub returns-in-Some : goal.returns-in-Some
returns-in-Some c =
    let first = fault_along c.args.table.now.flows c.flows-flows.result.now (slots_in c.args.report.now.runs) c.in_ok-fault.field-0 (Some c.in-Some.fault)
    c.flows-flows.ensures.flows c.in-Some.is c.in_ok-fault.ensures.first in
    subst (IsFirstFrom (instance_of c.args.table.now c.args.weights.now) c.args.table.now.ids c.args.report.now schedule_kind) (sym c.reason_of.ensures)
    (first_fault (instance_of c.args.table.now c.args.weights.now) c.args.table.now.ids c.args.report.now c.in-Some.fault first)

pub find_fault_of_runs-requires-clause-kept : goal.find_fault_of_runs-requires-clause-kept
find_fault_of_runs-requires-clause-kept c = runs_kept c.args.report.now c.requires.report

pub completions_of_runs-requires-clause-kept : goal.completions_of_runs-requires-clause-kept
completions_of_runs-requires-clause-kept c = runs_kept c.args.report.now c.requires.report

pub completions_of_runs-requires-clause-names : goal.completions_of_runs-requires-clause-names
completions_of_runs-requires-clause-names c =
    valid_names c.flows-flows.result.now (slots_in c.args.report.now.runs) (c.in_ok-fault.ensures.valid.0 c.in_default.is)

pub least_wrong-requires-clause-within : goal.least_wrong-requires-clause-within
least_wrong-requires-clause-within c =
    let within = subst (All (λ k. k < length c.args.table.now.ids)) (sym c.requires.coflows) c.requires.names.coflow in
    let of = ends_are c.args.table.now.flows c.flows-flows.result.now (slots_in c.args.report.now.runs) c.in_ok-ends.ends.items c.deref-2.result.now
    (length c.args.table.now.ids) c.coflows.result c.flows-flows.ensures.flows c.coflows.ensures.coflows c.deref-2.ensures.value c.in_ok-ends.ensures in
    λ k d lt. omega (arith, within k d lt, count_of c.deref-2.result.now (completion c.args.table.now.flows (slots_in c.args.report.now.runs)) (length c.args.table.now.ids) of)

pub returns-in-Some-least_wrong : goal.returns-in-Some-least_wrong
returns-in-Some-least_wrong c =
    let valid = subst (λ l. IsValid l (slots_in c.args.report.now.runs)) c.flows-flows.ensures.flows (c.in_ok-fault.ensures.valid.0 c.in_default.is) in
    let within = subst (All (λ k. k < length c.args.table.now.ids)) (sym c.requires.coflows) c.requires.names.coflow in
    let of = ends_are c.args.table.now.flows c.flows-flows.result.now (slots_in c.args.report.now.runs) c.in_ok-ends.ends.items c.deref-2.result.now
    (length c.args.table.now.ids) c.coflows.result c.flows-flows.ensures.flows c.coflows.ensures.coflows c.deref-2.ensures.value c.in_ok-ends.ensures in
    let stated : c.deref.result.now ≡ ends_in c.args.report.now.places = c.deref.ensures.value ∙ c.in_ok-stated.ensures ∙ ap ends_in c.as_slice.ensures in
    let least = least_along c.args.coflows.now c.deref.result.now c.deref-2.result.now (completion c.args.table.now.flows (slots_in c.args.report.now.runs))
    (length c.args.table.now.ids) c.in-Some-least_wrong.claim.coflow c.in-Some-least_wrong.claim.stated c.in-Some-least_wrong.claim.real of within c.in-Some-least_wrong.ensures
    in
    let at_places = subst (λ l. IsLeastWrong l (ends_in c.args.report.now.places) (completion c.args.table.now.flows (slots_in c.args.report.now.runs))
    c.in-Some-least_wrong.claim.coflow c.in-Some-least_wrong.claim.stated c.in-Some-least_wrong.claim.real) c.requires.coflows
    (subst (λ l. IsLeastWrong c.args.coflows.now l (completion c.args.table.now.flows (slots_in c.args.report.now.runs)) c.in-Some-least_wrong.claim.coflow
    c.in-Some-least_wrong.claim.stated c.in-Some-least_wrong.claim.real) stated least) in
    let first = first_wrong_end (instance_of c.args.table.now c.args.weights.now) c.args.table.now.ids c.args.report.now c.in-Some-least_wrong.claim.coflow
    c.in-Some-least_wrong.claim.stated c.in-Some-least_wrong.claim.real valid at_places in
    subst (IsFirstFrom (instance_of c.args.table.now c.args.weights.now) c.args.table.now.ids c.args.report.now schedule_kind) (sym c.wrong_end.ensures) first

pub cost_of-real-requires-clause-each : goal.cost_of-real-requires-clause-each
cost_of-real-requires-clause-each c =
    let of = ends_are c.args.table.now.flows c.flows-flows.result.now (slots_in c.args.report.now.runs) c.in_ok-ends.ends.items c.deref-3.result.now
    (length c.args.table.now.ids) c.coflows.result c.flows-flows.ensures.flows c.coflows.ensures.coflows c.deref-3.ensures.value c.in_ok-ends.ensures in
    omega (arith, count_of c.deref-3.result.now (completion c.args.table.now.flows (slots_in c.args.report.now.runs)) (length c.args.table.now.ids) of, c.requires.weight_each)

pub returns-then-cost-real : goal.returns-then-cost-real
returns-then-cost-real c =
    let valid = subst (λ l. IsValid l (slots_in c.args.report.now.runs)) c.flows-flows.ensures.flows (c.in_ok-fault.ensures.valid.0 c.in_default.is) in
    let within = subst (All (λ k. k < length c.args.table.now.ids)) (sym c.requires.coflows) c.requires.names.coflow in
    let of = ends_are c.args.table.now.flows c.flows-flows.result.now (slots_in c.args.report.now.runs) c.in_ok-ends.ends.items c.deref-2.result.now
    (length c.args.table.now.ids) c.coflows.result c.flows-flows.ensures.flows c.coflows.ensures.coflows c.deref-2.ensures.value c.in_ok-ends.ensures in
    let stated : c.deref.result.now ≡ ends_in c.args.report.now.places = c.deref.ensures.value ∙ c.in_ok-stated.ensures ∙ ap ends_in c.as_slice.ensures in
    let ends = subst (λ l. AreReal l (ends_in c.args.report.now.places) (completion c.args.table.now.flows (slots_in c.args.report.now.runs))) c.requires.coflows
    (subst (λ l. AreReal c.args.coflows.now l (completion c.args.table.now.flows (slots_in c.args.report.now.runs))) stated
    (real_along c.args.coflows.now c.deref.result.now c.deref-2.result.now (completion c.args.table.now.flows (slots_in c.args.report.now.runs)) (length c.args.table.now.ids)
    of within c.in_default-least_wrong.ensures)) in
    let lent = ends_are c.args.table.now.flows c.flows-flows.result.now (slots_in c.args.report.now.runs) c.in_ok-ends.ends.items c.deref-3.result.now
    (length c.args.table.now.ids) c.coflows.result c.flows-flows.ensures.flows c.coflows.ensures.coflows c.deref-3.ensures.value c.in_ok-ends.ensures in
    let real = cost_is c.args.table.now.flows (slots_in c.args.report.now.runs) c.args.weights.now c.deref-3.result.now (length c.args.table.now.ids) c.cost_of-real.result lent
    c.requires.weight_each (c.cost_of-real.ensures.cost c.args.table.now.flows (slots_in c.args.report.now.runs)) in
    first_wrong_cost (instance_of c.args.table.now c.args.weights.now) c.args.table.now.ids c.args.report.now c.cost_of-real.result valid ends real c.if-cost-real.true

pub returns-then-cost-most : goal.returns-then-cost-most
returns-then-cost-most c =
    let valid = subst (λ l. IsValid l (slots_in c.args.report.now.runs)) c.flows-flows.ensures.flows (c.in_ok-fault.ensures.valid.0 c.in_default.is) in
    let within = subst (All (λ k. k < length c.args.table.now.ids)) (sym c.requires.coflows) c.requires.names.coflow in
    let of = ends_are c.args.table.now.flows c.flows-flows.result.now (slots_in c.args.report.now.runs) c.in_ok-ends.ends.items c.deref-2.result.now
    (length c.args.table.now.ids) c.coflows.result c.flows-flows.ensures.flows c.coflows.ensures.coflows c.deref-2.ensures.value c.in_ok-ends.ensures in
    let stated : c.deref.result.now ≡ ends_in c.args.report.now.places = c.deref.ensures.value ∙ c.in_ok-stated.ensures ∙ ap ends_in c.as_slice.ensures in
    let ends = subst (λ l. AreReal l (ends_in c.args.report.now.places) (completion c.args.table.now.flows (slots_in c.args.report.now.runs))) c.requires.coflows
    (subst (λ l. AreReal c.args.coflows.now l (completion c.args.table.now.flows (slots_in c.args.report.now.runs))) stated
    (real_along c.args.coflows.now c.deref.result.now c.deref-2.result.now (completion c.args.table.now.flows (slots_in c.args.report.now.runs)) (length c.args.table.now.ids)
    of within c.in_default-least_wrong.ensures)) in
    let lent = ends_are c.args.table.now.flows c.flows-flows.result.now (slots_in c.args.report.now.runs) c.in_ok-ends.ends.items c.deref-3.result.now
    (length c.args.table.now.ids) c.coflows.result c.flows-flows.ensures.flows c.coflows.ensures.coflows c.deref-3.ensures.value c.in_ok-ends.ensures in
    let real = cost_is c.args.table.now.flows (slots_in c.args.report.now.runs) c.args.weights.now c.deref-3.result.now (length c.args.table.now.ids) c.cost_of-real.result lent
    c.requires.weight_each (c.cost_of-real.ensures.cost c.args.table.now.flows (slots_in c.args.report.now.runs)) in
    first_broken_ratio (instance_of c.args.table.now c.args.weights.now) c.args.table.now.ids c.args.report.now valid ends (c.if-cost-real.false ∙ real) c.if-cost-most.true

pub returns : goal.returns
returns c =
    let valid = subst (λ l. IsValid l (slots_in c.args.report.now.runs)) c.flows-flows.ensures.flows (c.in_ok-fault.ensures.valid.0 c.in_default.is) in
    let within = subst (All (λ k. k < length c.args.table.now.ids)) (sym c.requires.coflows) c.requires.names.coflow in
    let of = ends_are c.args.table.now.flows c.flows-flows.result.now (slots_in c.args.report.now.runs) c.in_ok-ends.ends.items c.deref-2.result.now
    (length c.args.table.now.ids) c.coflows.result c.flows-flows.ensures.flows c.coflows.ensures.coflows c.deref-2.ensures.value c.in_ok-ends.ensures in
    let stated : c.deref.result.now ≡ ends_in c.args.report.now.places = c.deref.ensures.value ∙ c.in_ok-stated.ensures ∙ ap ends_in c.as_slice.ensures in
    let ends = subst (λ l. AreReal l (ends_in c.args.report.now.places) (completion c.args.table.now.flows (slots_in c.args.report.now.runs))) c.requires.coflows
    (subst (λ l. AreReal c.args.coflows.now l (completion c.args.table.now.flows (slots_in c.args.report.now.runs))) stated
    (real_along c.args.coflows.now c.deref.result.now c.deref-2.result.now (completion c.args.table.now.flows (slots_in c.args.report.now.runs)) (length c.args.table.now.ids)
    of within c.in_default-least_wrong.ensures)) in
    let lent = ends_are c.args.table.now.flows c.flows-flows.result.now (slots_in c.args.report.now.runs) c.in_ok-ends.ends.items c.deref-3.result.now
    (length c.args.table.now.ids) c.coflows.result c.flows-flows.ensures.flows c.coflows.ensures.coflows c.deref-3.ensures.value c.in_ok-ends.ensures in
    let real = cost_is c.args.table.now.flows (slots_in c.args.report.now.runs) c.args.weights.now c.deref-3.result.now (length c.args.table.now.ids) c.cost_of-real.result lent
    c.requires.weight_each (c.cost_of-real.ensures.cost c.args.table.now.flows (slots_in c.args.report.now.runs)) in
    record { valid = valid; ends = ends; cost_is = c.if-cost-real.false ∙ real; within_four = c.if-cost-most.false }

use Rattle.std.proofs.Common.{slice_index, sym, subst, arith}
use Rattle.std.specs.Prelude.{Some}
use Rattle.coflow_units.specs.Schedule.{IsValid}
use Rattle.flow_table.specs.Table.{instance_of}
use Rattle.cert_check.proofs.EndFacts.{fault_along}
use Rattle.schedule_model.specs.RunList.{slots_in}
use Rattle.schedule_model.proofs.ValidSteps.{valid_names}
use Rattle.online_check.specs.Early.{IsFirstEarly}
use Rattle.online_check.specs.Parts.{IsFirstFrom}
use Rattle.online_check.specs.Reasons.{schedule_kind}
use Rattle.online_check.proofs.DoneSteps.{runs_kept}
use Rattle.online_check.proofs.Firsts.{first_early, first_fault}
use Rattle.online_check.proofs.schedule.wrong_schedule.Goals as goal

pub find_fault_of_runs-requires-clause-kept : goal.find_fault_of_runs-requires-clause-kept
find_fault_of_runs-requires-clause-kept c = runs_kept c.args.online.now c.requires.online

pub returns-in-Some : goal.returns-in-Some
returns-in-Some c = λ weights.
    let first = fault_along c.args.table.now.flows c.flows-flows.result.now (slots_in c.args.online.now.runs) c.in_ok-fault.field-0 (Some c.in-Some.fault)
    c.flows-flows.ensures.flows c.in-Some.is c.in_ok-fault.ensures.first in
    let arrival = slice_index c.args.arrivals.now in
    subst (IsFirstFrom (instance_of c.args.table.now weights) arrival c.args.table.now.ids c.args.online.now schedule_kind) (sym c.reason_of.ensures)
    (first_fault (instance_of c.args.table.now weights) arrival c.args.table.now.ids c.args.online.now c.in-Some.fault first)

pub first_early-requires-clause-kept : goal.first_early-requires-clause-kept
first_early-requires-clause-kept c = runs_kept c.args.online.now c.requires.online

pub first_early-requires-clause-names : goal.first_early-requires-clause-names
first_early-requires-clause-names c =
    valid_names c.flows-flows.result.now (slots_in c.args.online.now.runs) (c.in_ok-fault.ensures.valid.0 c.in_default.is)

pub returns-in-Some-2 : goal.returns-in-Some-2
returns-in-Some-2 c = λ weights.
    let t = c.args.table.now in
    let slot = c.in-Some-2.slot in
    let coflow = c.in-Some-2.coflow in
    let arrival = slice_index c.args.arrivals.now in
    let valid = subst (λ l. IsValid l (slots_in c.args.online.now.runs)) c.flows-flows.ensures.flows (c.in_ok-fault.ensures.valid.0 c.in_default.is) in
    let found = rw c.in-Some-2.is at c.in_ok-slot.ensures in
    let early = subst (λ l. IsFirstEarly l arrival (slots_in c.args.online.now.runs) slot coflow) c.flows-flows.ensures.flows found.0 in
    first_early (instance_of t weights) arrival t.ids c.args.online.now slot coflow valid (omega (arith, found.1, c.requires.arrival_each)) early

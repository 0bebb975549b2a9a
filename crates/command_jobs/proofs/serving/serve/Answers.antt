use Rattle.std.proofs.Common.{◌≡◌, IsErrAnd, List, ap, sym, subst, Err, arith, ℕ}
use Rattle.flow_table.specs.Table.{instance_of}
use Rattle.hall_plan.specs.declared.answer.PlanFault.TheVariants.{WireFault}
use Rattle.plans.specs.PlanReport.{IsPlanOf}
use Rattle.hall_plan.specs.Sent.{SendsAll, SendsPart, StopsShort}
use Rattle.command_jobs.proofs.serving.serve.Goals as goal

pub served_plan-requires-clause-wires : goal.served_plan-requires-clause-wires
served_plan-requires-clause-wires g c = omega (arith, c.requires.table.few_ports, c.requires.wires)

pub returns-in_err-report-clause-sent : goal.returns-in_err-report-clause-sent
returns-in_err-report-clause-sent g c =
    subst (λ (weights : List ℕ). SendsPart g.W.Wire.runs c.args.wires.now.items c.served_plan.new.wires.items c.args.input.now.table weights) c.as_slice.ensures
    c.served_plan.ensures.sent

pub returns-clause-sent : goal.returns-clause-sent
returns-clause-sent g c =
    subst (λ (weights : List ℕ). SendsPart g.W.Wire.runs c.args.wires.now.items c.served_plan.new.wires.items c.args.input.now.table weights) c.as_slice.ensures
    c.served_plan.ensures.sent

pub returns-in_err-report-clause-fault : goal.returns-in_err-report-clause-fault
returns-in_err-report-clause-fault g c = λ port e.
    let came : WireFault port ≡ c.in_err-report.field-0.0 = subst (λ r. IsErrAnd r (λ x. x ≡ c.in_err-report.field-0.0)) e c.from_residual.ensures.1 in
    subst (λ (weights : List ℕ). StopsShort g.W.Wire.faults g.W.Wire.runs c.args.wires.now.items c.served_plan.new.wires.items port c.args.input.now.table weights)
    c.as_slice.ensures
    (c.in_err-report.ensures.fault port (ap Err (sym came)))

pub returns-clause-plan : goal.returns-clause-plan
returns-clause-plan g c =
    subst (λ (weights : List ℕ). (planned : IsPlanOf (instance_of c.args.input.now.table weights) c.args.input.now.table.ids c.in_ok-report.report) ×
    SendsAll g.W.Wire.runs c.args.wires.now.items c.served_plan.new.wires.items c.args.input.now.table planned.slots) c.as_slice.ensures c.in_ok-report.ensures.plan

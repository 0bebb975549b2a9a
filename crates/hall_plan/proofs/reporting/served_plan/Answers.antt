use Rattle.std.proofs.Common.{◌≡◌, IsErrAnd, ap, sym, subst, Err}
use Rattle.flow_table.specs.Table.{TableFacts}
use Rattle.hall_plan.specs.declared.answer.PlanFault.TheVariants.{WireFault}
use Rattle.hall_plan.specs.Sent.{SendsAll}
use Rattle.hall_plan.proofs.PlanExists.{sends_nothing, sends_part, stops_short}
use Rattle.hall_plan.proofs.reporting.served_plan.Goals as goal

pub returns-in_err-master-clause-sent : goal.returns-in_err-master-clause-sent
returns-in_err-master-clause-sent g c =
    sends_nothing g.W.Wire.faults g.W.Wire.runs c.args.table.now c.args.weights.now
    (record { table = c.master_of.ensures.fits; count = c.requires.count; least = c.requires.least; most = c.requires.weights }) c.args.wires.now.items c.requires.wires

pub returns-in_err-places-clause-sent : goal.returns-in_err-places-clause-sent
returns-in_err-places-clause-sent g c =
    sends_part g.W.Wire.faults g.W.Wire.runs c.args.table.now c.args.weights.now c.in_ok-master.master.opening c.in_ok-master.ensures.table c.in_ok-master.ensures.weights
    (record { table = c.master_of.ensures.fits; count = c.requires.count; least = c.requires.least; most = c.requires.weights })
    c.args.wires.now.items c.plan.new.wires.items c.plan.ensures.wires

pub returns-in_err-report-clause-sent : goal.returns-in_err-report-clause-sent
returns-in_err-report-clause-sent g c =
    sends_part g.W.Wire.faults g.W.Wire.runs c.args.table.now c.args.weights.now c.in_ok-master.master.opening c.in_ok-master.ensures.table c.in_ok-master.ensures.weights
    (record { table = c.master_of.ensures.fits; count = c.requires.count; least = c.requires.least; most = c.requires.weights })
    c.args.wires.now.items c.plan.new.wires.items c.plan.ensures.wires

pub returns-clause-sent : goal.returns-clause-sent
returns-clause-sent g c =
    sends_part g.W.Wire.faults g.W.Wire.runs c.args.table.now c.args.weights.now c.in_ok-master.master.opening c.in_ok-master.ensures.table c.in_ok-master.ensures.weights
    (record { table = c.master_of.ensures.fits; count = c.requires.count; least = c.requires.least; most = c.requires.weights })
    c.args.wires.now.items c.plan.new.wires.items c.plan.ensures.wires

pub returns-in_err-places-clause-fault : goal.returns-in_err-places-clause-fault
returns-in_err-places-clause-fault g c = λ port e.
    let came : WireFault port ≡ c.in_err-places.field-0.0 = subst (λ r. IsErrAnd r (λ x. x ≡ c.in_err-places.field-0.0)) e c.from_residual-in_err-places.ensures.1 in
    stops_short g.W.Wire.faults g.W.Wire.runs c.args.table.now c.args.weights.now c.in_ok-master.master.opening c.in_ok-master.ensures.table c.in_ok-master.ensures.weights
    (record { table = c.master_of.ensures.fits; count = c.requires.count; least = c.requires.least; most = c.requires.weights })
    c.args.wires.now.items c.plan.new.wires.items port c.requires.wires
    (c.in_err-places.ensures.fault port (ap Err (sym came))) (λ slots planned. c.in_err-places.ensures.least port slots (ap Err (sym came)) planned)
    (c.in_err-places.ensures.stops port (ap Err (sym came)))

pub returns-clause-plan : goal.returns-clause-plan
returns-clause-plan g c =
    let plan = c.in_ok-report.ensures.plan in
    let told = plan.1 in
    let bound = c.in_ok-places.schedule-is in
    let same : c.in_ok-places.field-0.schedule ≡ plan.0.slots = cc in (
      plan.0,
      subst (λ slots. SendsAll g.W.Wire.runs c.args.wires.now.items c.plan.new.wires.items c.args.table.now slots) same
          (subst (λ (t : TableFacts). SendsAll g.W.Wire.runs c.args.wires.now.items c.plan.new.wires.items t c.in_ok-places.field-0.schedule)
          c.in_ok-master.ensures.table c.in_ok-places.ensures.sent),
    )

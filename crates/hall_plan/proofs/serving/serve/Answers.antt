use Rattle.std.proofs.Common.{ℕ, ⊎_elim, ◌∙◌, ◌<◌, slice_index_or, Result, Err, sym, subst, refl, ap}
use Rattle.std.specs.List.Sorted.{IsStrictlyIncreasing}
use Rattle.outside.specs.Rose.{Rose}
use Rattle.hall_plan.specs.declared.answer.PlanFault.{PlanFault}
use Rattle.hall_plan.specs.declared.answer.PlanFault.TheVariants.{WireFault}
use Rattle.slot_runner.specs.Cuts.{HaveStopped}
use Rattle.hall_plan.specs.Journals.{IsPlanBegun}
use Rattle.hall_plan.specs.Halls.{IsServedBy}
use Rattle.slot_runner.specs.Wires.{AreAllUnits, AreUnits, HaveMore}
use Rattle.hall_plan.proofs.PlanSlots.{Stops, stops_first, stops_there, ends_served, never_full, never_late, never_spent, no_run_parts}
use Rattle.hall_plan.proofs.PlanSlots.{ran_falls, ran_fits, ran_on, ran_parts, ran_rises, ran_some, rose_since, run_parts, sends_all, starts}
use Rattle.hall_plan.proofs.serving.serve.Goals as goal

abbrev port_of : {S : Type 0} → Result S PlanFault → ℕ
port_of (Err (WireFault port)) = port
port_of result = 0

pub loop-length-init : goal.loop-length-init
loop-length-init g c =
    record {
      served = subst (λ l. IsServedBy g.W.Wire.faults g.W.Wire.runs c.args.hall.now c.args.crew.now.runner l c.args.crew.now.wires c.args.crew.now.wires)
          (sym c.new-schedule.ensures) (starts g.W.Wire.faults g.W.Wire.runs c.args.hall.now c.args.crew.now.runner c.args.crew.now.wires c.requires.runner c.requires.wires);
      at = refl;
      places = refl;
    }

pub push_run-requires-clause-some : goal.push_run-requires-clause-some
push_run-requires-clause-some g c =
    let x = c.slot.ensures.ran c.in-Ran.slot c.in-Ran.length c.in-Ran.count c.in-Ran.is in
    ran_some c.loop-length.invariant.served c.slot.new.self.runner c.slot.new.self.wires c.in-Ran.slot c.in-Ran.length c.in-Ran.count x

pub push_run-requires-clause-ascending : goal.push_run-requires-clause-ascending
push_run-requires-clause-ascending g c =
    let x = c.slot.ensures.ran c.in-Ran.slot c.in-Ran.length c.in-Ran.count c.in-Ran.is in
    subst IsStrictlyIncreasing (sym c.granted.ensures)
    (ran_rises c.loop-length.invariant.served c.slot.new.self.runner c.slot.new.self.wires c.in-Ran.slot c.in-Ran.length c.in-Ran.count x)

pub push_run-requires-clause-short : goal.push_run-requires-clause-short
push_run-requires-clause-short g c =
    let x = c.slot.ensures.ran c.in-Ran.slot c.in-Ran.length c.in-Ran.count c.in-Ran.is in
    ran_fits c.loop-length.invariant.served c.slot.new.self.runner c.slot.new.self.wires c.in-Ran.slot c.in-Ran.length c.in-Ran.count x

pub loop-length-smaller : goal.loop-length-smaller
loop-length-smaller g c =
    let x = c.slot.ensures.ran c.in-Ran.slot c.in-Ran.length c.in-Ran.count c.in-Ran.is in
    ran_falls c.loop-length.invariant.served c.slot.new.self.runner c.slot.new.self.wires c.in-Ran.slot c.in-Ran.length c.in-Ran.count x

pub loop-length-preserved : goal.loop-length-preserved
loop-length-preserved g c =
    let x = c.slot.ensures.ran c.in-Ran.slot c.in-Ran.length c.in-Ran.count c.in-Ran.is in
    record {
      served = ran_on c.loop-length.invariant.served c.slot.new.self.runner c.slot.new.self.wires c.in-Ran.slot c.in-Ran.length c.in-Ran.count x c.granted.result.now
          c.push_run.new.self c.slot.ensures.again c.granted.ensures c.in_ok-push_run-in-Ran.ensures.pushed;
      at = c.slot.ensures.stays.0 ∙ c.loop-length.invariant.at;
      places = c.slot.ensures.stays.1 ∙ c.loop-length.invariant.places;
    }

pub returns-in_err-push_run-in-Ran-clause-wires : goal.returns-in_err-push_run-in-Ran-clause-wires
returns-in_err-push_run-in-Ran-clause-wires g c =
    let x = c.slot.ensures.ran c.in-Ran.slot c.in-Ran.length c.in-Ran.count c.in-Ran.is in
    ran_parts c.loop-length.invariant.served c.slot.new.self.runner c.slot.new.self.wires c.in-Ran.slot c.in-Ran.length c.in-Ran.count x

pub returns-in-Nothing-clause-schedule : goal.returns-in-Nothing-clause-schedule
returns-in-Nothing-clause-schedule g c =
    ends_served c.loop-length.invariant.served c.slot.new.self.runner (c.slot.ensures.nothing c.in-Nothing.is)

pub returns-in-Nothing-clause-sent : goal.returns-in-Nothing-clause-sent
returns-in-Nothing-clause-sent g c =
    let same = c.in-Nothing.ensures.wires refl in
    let table = c.args.hall.now.setting.opening.table in
    subst (λ l. HaveMore g.W.Wire.runs (AreAllUnits table.flows c.loop-length.schedule) table.ports c.args.crew.now.wires l) (sym same)
    (sends_all c.loop-length.invariant.served)

pub returns-in-Nothing-clause-wires : goal.returns-in-Nothing-clause-wires
returns-in-Nothing-clause-wires g c =
    let same = c.in-Nothing.ensures.wires refl in
    let table = c.args.hall.now.setting.opening.table in
    λ slots served. subst (λ l. HaveMore g.W.Wire.runs (AreUnits table.flows slots) table.ports c.args.crew.now.wires l) (sym same)
    (no_run_parts c.loop-length.invariant.served slots served)

pub returns-in-WireFault-clause-wires : goal.returns-in-WireFault-clause-wires
returns-in-WireFault-clause-wires g c =
    let x = c.slot.ensures.wire_fault c.in-WireFault.port c.in-WireFault.sent c.in-WireFault.is in
    run_parts c.loop-length.invariant.served c.slot.new.self.runner c.slot.new.self.wires x.drive x.run x.wires

pub returns-in-WireFault-clause-fault : goal.returns-in-WireFault-clause-fault
returns-in-WireFault-clause-fault g c =
    λ port e.
    let x = c.slot.ensures.wire_fault c.in-WireFault.port c.in-WireFault.sent c.in-WireFault.is in
    let faults = g.W.Wire.faults in
    subst (λ p. (p < c.args.hall.now.setting.opening.table.ports) ×
    ((b a : g.row.W.Denot) → Rose (faults (slice_index_or c.args.crew.now.wires p b)) (faults (slice_index_or c.slot.new.self.wires p a)))) (ap port_of e)
    (rose_since c.loop-length.invariant.served c.slot.new.self.runner c.slot.new.self.wires c.in-WireFault.port c.in-WireFault.sent x)

pub unreachable-requires : goal.unreachable-requires
unreachable-requires g c =
    ⊎_elim (λ late. never_late c.loop-length.invariant.served c.slot.new.self.runner late.0 (c.slot.ensures.late late.0 late.1))
    (λ more. ⊎_elim (λ full. never_full c.loop-length.invariant.served c.slot.new.self.runner full.0 (c.slot.ensures.full full.0 full.1))
    (λ rest. ⊎_elim (λ spent. never_spent c.loop-length.invariant.served (c.slot.ensures.spent spent).0) (λ none. c.slot.ensures.memory none) rest) more) c.in-Late.is

pub returns-in-WireFault-clause-least : goal.returns-in-WireFault-clause-least
returns-in-WireFault-clause-least g c = λ port slots e served.
    let x = c.slot.ensures.wire_fault c.in-WireFault.port c.in-WireFault.sent c.in-WireFault.is in
    subst (λ p. Stops g.W.Wire.runs p c.args.crew.now.wires c.slot.new.self.wires c.args.hall.now.setting.opening slots) (ap port_of e)
    (stops_first c.loop-length.invariant.served c.slot.new.self.runner c.slot.new.self.wires c.in-WireFault.port c.in-WireFault.sent x slots served)

pub returns-in-WireFault-clause-stops : goal.returns-in-WireFault-clause-stops
returns-in-WireFault-clause-stops g c = λ port e.
    let x = c.slot.ensures.wire_fault c.in-WireFault.port c.in-WireFault.sent c.in-WireFault.is in
    subst (λ p. HaveStopped g.W.Wire.runs (IsPlanBegun c.args.hall.now.setting.opening) c.args.hall.now.setting.opening p c.args.crew.now.wires c.slot.new.self.wires)
    (ap port_of e)
    (stops_there c.loop-length.invariant.served c.slot.new.self.runner c.slot.new.self.wires c.in-WireFault.port c.in-WireFault.sent x)

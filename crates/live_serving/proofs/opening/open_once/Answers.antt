use Rattle.std.proofs.Common.{refl, ⊎_elim}
use Rattle.live_serving.proofs.DriverTurns.{never_late, never_spent}
use Rattle.live_serving.proofs.OpeningSteps.{fault_served, full_met, full_served, nothing_served, ran_served}
use Rattle.live_serving.proofs.opening.open_once.Goals as goal

pub slot-requires-clause-may : goal.slot-requires-clause-may
slot-requires-clause-may g c = c.requires.may.may

pub returns-in-Ran-clause-opening : goal.returns-in-Ran-clause-opening
returns-in-Ran-clause-opening g c =
    let x = c.slot.ensures.ran c.in-Ran.slot c.in-Ran.length c.in-Ran.count c.in-Ran.is in
    (x.drive, x.run, x.whole)

pub returns-in-Ran-clause-wires : goal.returns-in-Ran-clause-wires
returns-in-Ran-clause-wires g c =
    ran_served g.W.Wire.faults g.W.Wire.runs c.args.hall.now c.args.crew.now.runner c.slot.new.self.runner c.args.crew.now.wires c.slot.new.self.wires c.args.most c.requires.may
    c.requires.wires
    c.slot.ensures.again c.in-Ran.slot c.in-Ran.length c.in-Ran.count (c.slot.ensures.ran c.in-Ran.slot c.in-Ran.length c.in-Ran.count c.in-Ran.is)

pub returns-in-Nothing-clause-wires : goal.returns-in-Nothing-clause-wires
returns-in-Nothing-clause-wires g c =
    nothing_served g.W.Wire.faults g.W.Wire.runs c.args.hall.now c.args.crew.now.runner c.slot.new.self.runner c.args.crew.now.wires c.slot.new.self.wires c.args.most
    c.requires.may
    c.requires.wires c.slot.ensures.again (c.slot.ensures.nothing c.in-Nothing.is) (c.in-Nothing.ensures.wires refl)

pub returns-in-Full-clause-opening : goal.returns-in-Full-clause-opening
returns-in-Full-clause-opening g c =
    full_met c.args.hall.now c.args.most c.in-Full.field-0 c.args.crew.now.runner c.slot.new.self.runner (c.slot.ensures.full c.in-Full.field-0 c.in-Full.is)

pub returns-in-Full-clause-wires : goal.returns-in-Full-clause-wires
returns-in-Full-clause-wires g c =
    full_served g.W.Wire.faults g.W.Wire.runs c.args.hall.now c.args.crew.now.runner c.slot.new.self.runner c.args.crew.now.wires c.slot.new.self.wires c.args.most c.requires.may
    c.requires.wires c.slot.ensures.again c.in-Full.field-0 (c.slot.ensures.full c.in-Full.field-0 c.in-Full.is) (c.in-Full.ensures.wires refl)

pub returns-in-WireFault-clause-wires : goal.returns-in-WireFault-clause-wires
returns-in-WireFault-clause-wires g c =
    fault_served g.W.Wire.faults g.W.Wire.runs c.args.hall.now c.args.crew.now.runner c.slot.new.self.runner c.args.crew.now.wires c.slot.new.self.wires c.args.most c.requires.may
    c.requires.wires c.slot.ensures.again c.in-WireFault.port c.in-WireFault.sent (c.slot.ensures.wire_fault c.in-WireFault.port c.in-WireFault.sent c.in-WireFault.is)

pub unreachable-requires : goal.unreachable-requires
unreachable-requires g c = ⊎_elim
    (λ late. never_late c.args.hall.now c.args.most late.0 c.args.crew.now.runner c.slot.new.self.runner c.coflows-within.ensures.opening c.requires.may
    (c.slot.ensures.late late.0 late.1))
    (λ rest. ⊎_elim
    (λ spent. never_spent c.args.hall.now c.args.most c.args.crew.now.runner c.coflows-within.ensures.opening c.requires.may (c.slot.ensures.spent spent).0)
    (λ none. c.slot.ensures.memory none) rest) c.in-Late.is

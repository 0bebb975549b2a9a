use Rattle.std.proofs.Common.{rules, ◌≡◌, ◌+◌, ◌≤◌, ◌++◌, List, length, length-append, sym, ap, ◌∙◌, subst, arith, vec_capacity}
use Rattle.slot_runner.proofs.Dismissed.{none_out_at, over_at}
use Rattle.slot_runner.specs.Wires.{AreUnits, HaveMore}
use Rattle.hall_plan.proofs.Camped.{served_camp}
use Rattle.slot_runner.proofs.WireSteps.{untouched}
use Rattle.hall_plan.proofs.camping.serve_by_camp.Goals as goal

pub returns-in_default-clause-wires : goal.returns-in_default-clause-wires
returns-in_default-clause-wires g c = λ slots served.
    let same : c.into_camp.new.wires.items ≡ c.args.wires.now.items = search rules in
    subst (λ (l : List g.row.W.Denot). HaveMore g.W.Wire.runs (AreUnits c.args.hall.now.setting.opening.table.flows slots) c.args.hall.now.setting.opening.table.ports
    c.args.wires.now.items l) (sym same)
    (untouched g.W.Wire.faults g.W.Wire.runs c.args.hall.now.setting.opening.table.flows slots c.args.hall.now.setting.opening.table.ports c.args.wires.now.items c.requires.wires)

pub disband-requires-clause-over : goal.disband-requires-clause-over
disband-requires-clause-over g c = over_at c.in-Ok.camp.site c.in-Ok.camp.crew c.in-Ok.ensures.camp.at c.serve_camp-served.new.crew.places c.serve_camp-served.ensures.over

pub disband-requires-clause-none : goal.disband-requires-clause-none
disband-requires-clause-none g c = none_out_at c.in-Ok.camp.site c.in-Ok.camp.crew c.in-Ok.ensures.camp.at c.serve_camp-served.new.crew.places c.serve_camp-served.ensures.over

pub disband-requires-clause-room : goal.disband-requires-clause-room
disband-requires-clause-room g c =
    let none : length c.into_camp.new.wires.items ≡ 0 = ap (λ (l : List g.row.W.Denot). length l) c.in-Ok.ensures.taken in
    let whole : length c.in-Ok.camp.crew.wires + length c.in-Ok.camp.far.items ≡ length c.args.wires.now.items = sym (length-append c.in-Ok.camp.crew.wires c.in-Ok.camp.far.items)
    ∙ ap (λ (l : List g.row.W.Denot). length l) c.in-Ok.ensures.camp.wires in
    let long = c.in-Ok.ensures.camp.ports ∙ c.requires.runner.may.ports in
    let ports = c.serve_camp-served.ensures.ports in
    let room = c.into_camp.ensures.room in
    let small : length c.args.wires.now.items ≤ vec_capacity c.args.wires.now = search rules in
    omega (arith, none, whole, long, ports, room, small)

pub returns-clause-sent : goal.returns-clause-sent
returns-clause-sent g c = let s = served_camp g.W.Wire.faults g.W.Wire.runs c.args.hall.now c.in-Ok.camp.crew c.serve_camp-served.new.crew c.serve_camp-served.result
    c.in-Ok.camp.far.items c.args.wires.now.items c.disband.new.wires.items
    (c.in-Ok.ensures.camp.ports ∙ c.requires.runner.may.ports) c.disband.ensures.many c.in-Ok.ensures.camp.wires
    (c.disband.ensures.wires ∙ ap (λ (l : List g.row.W.Denot). l ++ (c.serve_camp-served.new.crew.wires ++ c.in-Ok.camp.far.items)) c.in-Ok.ensures.taken)
    c.serve_camp-served.ensures in s.sent

pub returns-clause-wires : goal.returns-clause-wires
returns-clause-wires g c = let s = served_camp g.W.Wire.faults g.W.Wire.runs c.args.hall.now c.in-Ok.camp.crew c.serve_camp-served.new.crew c.serve_camp-served.result
    c.in-Ok.camp.far.items c.args.wires.now.items c.disband.new.wires.items
    (c.in-Ok.ensures.camp.ports ∙ c.requires.runner.may.ports) c.disband.ensures.many c.in-Ok.ensures.camp.wires
    (c.disband.ensures.wires ∙ ap (λ (l : List g.row.W.Denot). l ++ (c.serve_camp-served.new.crew.wires ++ c.in-Ok.camp.far.items)) c.in-Ok.ensures.taken)
    c.serve_camp-served.ensures in s.wires

pub returns-clause-fault : goal.returns-clause-fault
returns-clause-fault g c = let s = served_camp g.W.Wire.faults g.W.Wire.runs c.args.hall.now c.in-Ok.camp.crew c.serve_camp-served.new.crew c.serve_camp-served.result
    c.in-Ok.camp.far.items c.args.wires.now.items c.disband.new.wires.items
    (c.in-Ok.ensures.camp.ports ∙ c.requires.runner.may.ports) c.disband.ensures.many c.in-Ok.ensures.camp.wires
    (c.disband.ensures.wires ∙ ap (λ (l : List g.row.W.Denot). l ++ (c.serve_camp-served.new.crew.wires ++ c.in-Ok.camp.far.items)) c.in-Ok.ensures.taken)
    c.serve_camp-served.ensures in s.fault

pub returns-clause-least : goal.returns-clause-least
returns-clause-least g c = let s = served_camp g.W.Wire.faults g.W.Wire.runs c.args.hall.now c.in-Ok.camp.crew c.serve_camp-served.new.crew c.serve_camp-served.result
    c.in-Ok.camp.far.items c.args.wires.now.items c.disband.new.wires.items
    (c.in-Ok.ensures.camp.ports ∙ c.requires.runner.may.ports) c.disband.ensures.many c.in-Ok.ensures.camp.wires
    (c.disband.ensures.wires ∙ ap (λ (l : List g.row.W.Denot). l ++ (c.serve_camp-served.new.crew.wires ++ c.in-Ok.camp.far.items)) c.in-Ok.ensures.taken)
    c.serve_camp-served.ensures in s.least

pub returns-clause-stops : goal.returns-clause-stops
returns-clause-stops g c = let s = served_camp g.W.Wire.faults g.W.Wire.runs c.args.hall.now c.in-Ok.camp.crew c.serve_camp-served.new.crew c.serve_camp-served.result
    c.in-Ok.camp.far.items c.args.wires.now.items c.disband.new.wires.items
    (c.in-Ok.ensures.camp.ports ∙ c.requires.runner.may.ports) c.disband.ensures.many c.in-Ok.ensures.camp.wires
    (c.disband.ensures.wires ∙ ap (λ (l : List g.row.W.Denot). l ++ (c.serve_camp-served.new.crew.wires ++ c.in-Ok.camp.far.items)) c.in-Ok.ensures.taken)
    c.serve_camp-served.ensures in s.stops

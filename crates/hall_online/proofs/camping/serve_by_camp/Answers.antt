use Rattle.std.proofs.Common.{rules, ◌≡◌, ◌+◌, ◌≤◌, ◌++◌, List, length, length-append, sym, ap, ◌∙◌, subst, arith, vec_capacity}
use Rattle.slot_runner.proofs.Dismissed.{none_out_at, over_at}
use Rattle.slot_runner.specs.Models.{RunnerModel}
use Rattle.hall_online.specs.Serving.{HaveServed, IsUnderWay}
use Rattle.hall_online.proofs.Begins.{none_served}
use Rattle.hall_online.proofs.Camped.{served_camp}
use Rattle.hall_online.proofs.camping.serve_by_camp.Goals as goal

pub returns-in_default-clause-served : goal.returns-in_default-clause-served
returns-in_default-clause-served g c = λ arrivals every h.
    let same : c.into_camp.new.wires.items ≡ c.args.wires.now.items = search rules in
    subst (HaveServed g.W.Wire.runs c.args.hall.now.setting.opening arrivals every c.args.wires.now.items) (sym same)
    (none_served g.W.Wire.faults g.W.Wire.runs c.args.hall.now.setting.opening arrivals every c.args.wires.now.items c.requires.wires)

pub serve_camp-served-requires-clause-may : goal.serve_camp-served-requires-clause-may
serve_camp-served-requires-clause-may g c κs within =
    let (arrivals, every, h) = c.requires.under_way in
    let camp = c.in-Ok.ensures.camp in
    record {
      under_way = (
        arrivals,
        every,
        subst (λ (r : RunnerModel). IsUnderWay c.args.hall.now r arrivals every c.args.kept.now.course c.args.kept.now.progress) (sym camp.runner) h,
      );
      none = ap (λ (r : RunnerModel). r.driver.journal) camp.runner ∙ c.requires.none;
      table_is = c.requires.table;
      places = c.requires.places;
      coflows = c.requires.coflows;
      ports = c.requires.ports;
      at = camp.at;
      wires = omega (arith, camp.ports, h.ready.may.ports);
    }

pub disband-requires-clause-over : goal.disband-requires-clause-over
disband-requires-clause-over g c = over_at c.in-Ok.camp.site c.in-Ok.camp.crew c.in-Ok.ensures.camp.at c.serve_camp-served.new.crew.places c.serve_camp-served.ensures.over

pub disband-requires-clause-none : goal.disband-requires-clause-none
disband-requires-clause-none g c = none_out_at c.in-Ok.camp.site c.in-Ok.camp.crew c.in-Ok.ensures.camp.at c.serve_camp-served.new.crew.places c.serve_camp-served.ensures.over

pub disband-requires-clause-room : goal.disband-requires-clause-room
disband-requires-clause-room g c =
    let (arrivals, every, h) = c.requires.under_way in
    let none : length c.into_camp.new.wires.items ≡ 0 = ap (λ (l : List g.row.W.Denot). length l) c.in-Ok.ensures.taken in
    let whole : length c.in-Ok.camp.crew.wires + length c.in-Ok.camp.far.items ≡ length c.args.wires.now.items =
    sym (length-append c.in-Ok.camp.crew.wires c.in-Ok.camp.far.items) ∙ ap (λ (l : List g.row.W.Denot). length l) c.in-Ok.ensures.camp.wires in
    let long = c.in-Ok.ensures.camp.ports ∙ h.ready.may.ports in
    let small : length c.args.wires.now.items ≤ vec_capacity c.args.wires.now = search rules in
    omega (arith, none, whole, long, c.serve_camp-served.ensures.ports, c.into_camp.ensures.room, small)

pub returns-clause-ends : goal.returns-clause-ends
returns-clause-ends g c =
    let (arrivals, every, h) = c.requires.under_way in
    let long = c.in-Ok.ensures.camp.ports ∙ h.ready.may.ports in
    let s = served_camp g.W.Wire.faults g.W.Wire.runs c.args.hall.now c.args.runner c.in-Ok.camp.crew c.serve_camp-served.new.crew c.args.kept.now c.serve_camp-served.new.kept
    c.serve_camp-served.result c.in-Ok.camp.far.items c.args.wires.now.items c.disband.new.wires.items c.in-Ok.ensures.camp.runner long c.disband.ensures.many
    c.in-Ok.ensures.camp.wires
    (c.disband.ensures.wires ∙ ap (λ (l : List g.row.W.Denot). l ++ (c.serve_camp-served.new.crew.wires ++ c.in-Ok.camp.far.items)) c.in-Ok.ensures.taken)
    c.serve_camp-served.ensures in
    s.ends

pub returns-clause-sent : goal.returns-clause-sent
returns-clause-sent g c =
    let (arrivals, every, h) = c.requires.under_way in
    let long = c.in-Ok.ensures.camp.ports ∙ h.ready.may.ports in
    let s = served_camp g.W.Wire.faults g.W.Wire.runs c.args.hall.now c.args.runner c.in-Ok.camp.crew c.serve_camp-served.new.crew c.args.kept.now c.serve_camp-served.new.kept
    c.serve_camp-served.result c.in-Ok.camp.far.items c.args.wires.now.items c.disband.new.wires.items c.in-Ok.ensures.camp.runner long c.disband.ensures.many
    c.in-Ok.ensures.camp.wires
    (c.disband.ensures.wires ∙ ap (λ (l : List g.row.W.Denot). l ++ (c.serve_camp-served.new.crew.wires ++ c.in-Ok.camp.far.items)) c.in-Ok.ensures.taken)
    c.serve_camp-served.ensures in
    s.sent

pub returns-clause-served : goal.returns-clause-served
returns-clause-served g c =
    let (arrivals, every, h) = c.requires.under_way in
    let long = c.in-Ok.ensures.camp.ports ∙ h.ready.may.ports in
    let s = served_camp g.W.Wire.faults g.W.Wire.runs c.args.hall.now c.args.runner c.in-Ok.camp.crew c.serve_camp-served.new.crew c.args.kept.now c.serve_camp-served.new.kept
    c.serve_camp-served.result c.in-Ok.camp.far.items c.args.wires.now.items c.disband.new.wires.items c.in-Ok.ensures.camp.runner long c.disband.ensures.many
    c.in-Ok.ensures.camp.wires
    (c.disband.ensures.wires ∙ ap (λ (l : List g.row.W.Denot). l ++ (c.serve_camp-served.new.crew.wires ++ c.in-Ok.camp.far.items)) c.in-Ok.ensures.taken)
    c.serve_camp-served.ensures in
    s.served

pub returns-clause-fault : goal.returns-clause-fault
returns-clause-fault g c =
    let (arrivals, every, h) = c.requires.under_way in
    let long = c.in-Ok.ensures.camp.ports ∙ h.ready.may.ports in
    let s = served_camp g.W.Wire.faults g.W.Wire.runs c.args.hall.now c.args.runner c.in-Ok.camp.crew c.serve_camp-served.new.crew c.args.kept.now c.serve_camp-served.new.kept
    c.serve_camp-served.result c.in-Ok.camp.far.items c.args.wires.now.items c.disband.new.wires.items c.in-Ok.ensures.camp.runner long c.disband.ensures.many
    c.in-Ok.ensures.camp.wires
    (c.disband.ensures.wires ∙ ap (λ (l : List g.row.W.Denot). l ++ (c.serve_camp-served.new.crew.wires ++ c.in-Ok.camp.far.items)) c.in-Ok.ensures.taken)
    c.serve_camp-served.ensures in
    s.fault

pub returns-clause-stops : goal.returns-clause-stops
returns-clause-stops g c =
    let (arrivals, every, h) = c.requires.under_way in
    let long = c.in-Ok.ensures.camp.ports ∙ h.ready.may.ports in
    let s = served_camp g.W.Wire.faults g.W.Wire.runs c.args.hall.now c.args.runner c.in-Ok.camp.crew c.serve_camp-served.new.crew c.args.kept.now c.serve_camp-served.new.kept
    c.serve_camp-served.result c.in-Ok.camp.far.items c.args.wires.now.items c.disband.new.wires.items c.in-Ok.ensures.camp.runner long c.disband.ensures.many
    c.in-Ok.ensures.camp.wires
    (c.disband.ensures.wires ∙ ap (λ (l : List g.row.W.Denot). l ++ (c.serve_camp-served.new.crew.wires ++ c.in-Ok.camp.far.items)) c.in-Ok.ensures.taken)
    c.serve_camp-served.ensures in
    s.stops

pub returns-clause-too_many : goal.returns-clause-too_many
returns-clause-too_many g c =
    let (arrivals, every, h) = c.requires.under_way in
    let long = c.in-Ok.ensures.camp.ports ∙ h.ready.may.ports in
    let s = served_camp g.W.Wire.faults g.W.Wire.runs c.args.hall.now c.args.runner c.in-Ok.camp.crew c.serve_camp-served.new.crew c.args.kept.now c.serve_camp-served.new.kept
    c.serve_camp-served.result c.in-Ok.camp.far.items c.args.wires.now.items c.disband.new.wires.items c.in-Ok.ensures.camp.runner long c.disband.ensures.many
    c.in-Ok.ensures.camp.wires
    (c.disband.ensures.wires ∙ ap (λ (l : List g.row.W.Denot). l ++ (c.serve_camp-served.new.crew.wires ++ c.in-Ok.camp.far.items)) c.in-Ok.ensures.taken)
    c.serve_camp-served.ensures in
    s.too_many

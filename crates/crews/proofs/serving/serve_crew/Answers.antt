use Rattle.std.proofs.Common.{rules, ◌≤◌, length, arith}
use Rattle.crews.proofs.Ready.{fewer_ready}
use Rattle.crews.proofs.Whole.{few_ports, there_at, whole_run}
use Rattle.crews.proofs.serving.serve_crew.Goals as goal

pub serve_parts-requires-clause-room : goal.serve_parts-requires-clause-room
serve_parts-requires-clause-room g c =
    let few = few_ports c.args.ports.now c.args.board.now.ports c.requires.distinct c.requires.ports in
    let none = c.requires.none_out in
    let low : c.args.board.now.ports ≤ 1025 = search rules in
    omega (arith, few, none, low)

pub serve_parts-requires-clause-ready : goal.serve_parts-requires-clause-ready
serve_parts-requires-clause-ready g c =
    fewer_ready c.args.board.now c.args.trays.now c.args.board.now.ports (length c.args.ports.now) _ c.requires.ready
    (few_ports c.args.ports.now c.args.board.now.ports c.requires.distinct c.requires.ports)

pub serve_parts-requires-clause-there : goal.serve_parts-requires-clause-there
serve_parts-requires-clause-there g c = there_at c.args.ports.now c.args.wires.now c.args.board.now.ports c.requires.wires.1 c.requires.ports c.requires.wires.0

pub returns-clause-wires : goal.returns-clause-wires
returns-clause-wires g c = (whole_run g.W.Wire.faults g.W.Wire.runs c.args.board.now.ports c.args.poster.now.view c.serve_parts.new.poster.view c.args.ports.now c.args.wires.now
    c.serve_parts.new.wires
    c.requires.none_out c.requires.wires.1 c.requires.ports c.requires.wires.0 c.serve_parts.ensures.served).0

pub returns-clause-served : goal.returns-clause-served
returns-clause-served g c = (whole_run g.W.Wire.faults g.W.Wire.runs c.args.board.now.ports c.args.poster.now.view c.serve_parts.new.poster.view c.args.ports.now c.args.wires.now
    c.serve_parts.new.wires
    c.requires.none_out c.requires.wires.1 c.requires.ports c.requires.wires.0 c.serve_parts.ensures.served).1

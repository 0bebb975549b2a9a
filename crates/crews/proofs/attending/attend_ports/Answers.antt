use Rattle.std.proofs.Common.{◌≡◌, ◌<◌, ℕ, List, get_or, length, Some, None, ◌∙◌, refl}
use Rattle.std.proofs.lemmas.List.{get_or_default}
use Rattle.crews.proofs.Driving.{drive_all, drive_more, drive_none, next_stands}
use Rattle.crews.proofs.Places.{there_within}
use Rattle.crews.proofs.attending.attend_ports.Goals as goal

pub loop-port-init : goal.loop-port-init
loop-port-init g c = record {
  own = refl;
  same = refl;
  so_far = drive_none g.W.Wire.faults g.W.Wire.runs c.args.board.now.ports c.args.agent.now.view c.args.wires.now;
}

pub loop-port-preserved : goal.loop-port-preserved
loop-port-preserved g c =
    let i : ℕ = c.loop-port.port-index in
    let ports : List ℕ = c.args.ports.now in
    let p : ℕ = get_or ports i 0 in
    let so = c.loop-port.invariant.so_far in
    let stands = next_stands g.W.Wire.faults g.W.Wire.runs c.args.board.now.ports ports i 0 c.args.agent.now.view c.loop-port.agent.view c.args.wires.now c.loop-port.wires so
    c.requires.distinct
    c.requires.there c.loop-port-test.true in
    let within : p < length c.loop-port.wires = there_within c.loop-port.wires p stands in
    let is : get_or c.loop-port.wires p None ≡ Some c.in-Some.wire = get_or_default c.loop-port.wires p None c.index-wires-port.result within ∙ c.in-Some.is in record {
      own = c.serve_port-drawn.ensures.own ∙ c.loop-port.invariant.own;
      same = c.serve_port-drawn.ensures.same ∙ c.loop-port.invariant.same;
      so_far = drive_more g.W.Wire.faults g.W.Wire.runs c.args.board.now.ports ports i 0 c.args.agent.now.view c.loop-port.agent.view c.args.wires.now c.loop-port.wires so
          c.requires.distinct
          c.requires.there c.loop-port-test.true c.serve_port-drawn.new.self.view c.in-Some.wire c.serve_port-drawn.new.wire c.serve_port-drawn.result is
          c.serve_port-drawn.ensures.port;
    }

pub returns : goal.returns
returns g c =
    let did = drive_all g.W.Wire.faults g.W.Wire.runs c.args.board.now.ports c.args.agent.now c.loop-port.agent c.args.ports.now c.loop-port.port-index c.args.wires.now
    c.loop-port.wires
    c.loop-port.invariant.so_far c.loop-port-test.false c.loop-port.invariant.own c.loop-port.invariant.same in record { tried = did.0; stay = did.1 }

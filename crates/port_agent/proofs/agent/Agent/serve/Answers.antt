use Rattle.std.proofs.Common.{rules, ℕ, ◌<◌, ◌≤◌, length, get_or, sym, ◌∙◌, refl, subst}
use Rattle.std.proofs.lemmas.List.{get_or_default}
use Rattle.port_agent.proofs.Rounds.{begins, ends, goes_idle, goes_took}
use Rattle.port_agent.proofs.agent.Agent.serve.Goals as goal

pub returns-clause-round : goal.returns-clause-round
returns-clause-round g c = ends g.W.Wire.faults g.W.Wire.runs c.args.board.now.ports c.args.first c.loop-offset.offset c.args.self.now.view c.loop-offset.self.view c.args.wires.now
    c.loop-offset.wires
    c.loop-offset.served (search rules) c.loop-offset.invariant.so_far

pub loop-offset-preserved-in_default : goal.loop-offset-preserved-in_default
loop-offset-preserved-in_default g c =
    let i : ℕ = c.loop-offset.offset in
    let inside : i < length c.loop-offset.wires = subst (λ z. i < z) (sym c.loop-offset.auto.wires) c.loop-offset-test.true in record {
      own = c.in_default.ensures.own ∙ c.loop-offset.invariant.own;
      same = c.in_default.ensures.same ∙ c.loop-offset.invariant.same;
      few = c.loop-offset.invariant.few;
      so_far = goes_idle g.W.Wire.faults g.W.Wire.runs c.args.board.now.ports c.args.first i c.args.self.now.view c.loop-offset.self.view c.serve_port.new.self.view
          c.args.wires.now c.loop-offset.wires
          c.serve_port.new.wire c.loop-offset-test.true c.loop-offset.served
          (get_or c.loop-offset.wires i c.index-wires-offset.result) c.loop-offset.invariant.so_far (λ d. get_or_default c.loop-offset.wires i c.index-wires-offset.result d inside)
          c.in_default.ensures.port;
    }

pub loop-offset-preserved : goal.loop-offset-preserved
loop-offset-preserved g c =
    let i : ℕ = c.loop-offset.offset in
    let inside : i < length c.loop-offset.wires = subst (λ z. i < z) (sym c.loop-offset.auto.wires) c.loop-offset-test.true in record {
      own = c.in-Some.ensures.own ∙ c.loop-offset.invariant.own;
      same = c.in-Some.ensures.same ∙ c.loop-offset.invariant.same;
      few = c.loop-offset.invariant.few;
      so_far = goes_took g.W.Wire.faults g.W.Wire.runs c.args.board.now.ports c.args.first i c.args.self.now.view c.loop-offset.self.view c.serve_port.new.self.view
          c.args.wires.now c.loop-offset.wires
          c.serve_port.new.wire c.loop-offset-test.true c.loop-offset.served c.add.new.self
          (get_or c.loop-offset.wires i c.index-wires-offset.result) c.in-Some.length c.in-Some.sent c.loop-offset.invariant.so_far
          (λ d. get_or_default c.loop-offset.wires i c.index-wires-offset.result d inside) c.in-Some.ensures.port c.add.ensures;
    }

pub loop-offset-init : goal.loop-offset-init
loop-offset-init g c = record {
  own = refl;
  same = refl;
  few = subst (λ z. z ≤ 1025) c.ports-few.ensures.ports c.ports-few.ensures.range.1;
  so_far = begins g.W.Wire.faults g.W.Wire.runs c.args.board.now.ports c.args.first c.args.self.now.view c.args.wires.now (record { drawn = 0; sent = 0; short = 0 })
      refl refl refl;
}

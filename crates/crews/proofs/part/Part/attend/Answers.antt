use Rattle.std.proofs.Common.{◌<◌, ◌≤◌, sym, ◌∙◌, refl, subst}
use Rattle.std.specs.Vec.{with_items}
use Rattle.coflow_units.proofs.Fronts.{written_back}
use Rattle.crews.proofs.Trying.{attended, begins, goes_on, port_within}
use Rattle.crews.proofs.part.Part.attend.Goals as goal

pub loop-outlet-init : goal.loop-outlet-init
loop-outlet-init g c = record {
  own = refl;
  same = refl;
  so_far = begins g.W.Wire.faults g.W.Wire.runs c.args.board.now.ports c.args.self.now.agent.view c.args.self.now.outlets.items _ c.deref_mut-outlet-items.ensures.value;
}

pub serve_port-drawn-requires-clause-port : goal.serve_port-drawn-requires-clause-port
serve_port-drawn-requires-clause-port g c =
    port_within g.W.Wire.faults g.W.Wire.runs c.args.board.now.ports c.args.board.now.ports c.loop-outlet.outlet-index c.args.self.now.agent.view c.loop-outlet.agent.view
    c.args.self.now.outlets.items
    c.loop-outlet.outlet-items c.outlet-item.result c.loop-outlet.invariant.so_far
    (subst (λ n. c.loop-outlet.outlet-index < n) (sym c.loop-outlet.auto.outlet-items) c.loop-outlet-test.true)
    c.requires.fits.1

pub loop-outlet-preserved : goal.loop-outlet-preserved
loop-outlet-preserved g c = record {
  own = c.serve_port-drawn.ensures.own ∙ c.loop-outlet.invariant.own;
  same = c.serve_port-drawn.ensures.same ∙ c.loop-outlet.invariant.same;
  so_far = goes_on g.W.Wire.faults g.W.Wire.runs c.args.board.now.ports c.loop-outlet.outlet-index c.args.self.now.agent.view c.loop-outlet.agent.view
      c.serve_port-drawn.new.self.view
      c.args.self.now.outlets.items c.loop-outlet.outlet-items c.outlet-item.result c.serve_port-drawn.new.wire c.serve_port-drawn.result c.loop-outlet.invariant.so_far
      (subst (λ n. c.loop-outlet.outlet-index < n) (sym c.loop-outlet.auto.outlet-items) c.loop-outlet-test.true) c.serve_port-drawn.ensures.port;
}

pub returns : goal.returns
returns g c = record {
  attended = attended g.W.Wire.faults g.W.Wire.runs c.args.board.now c.args.self.now
      (record { agent = c.loop-outlet.agent; outlets = with_items c.args.self.now.outlets c.loop-outlet.outlet-items }) c.loop-outlet.outlet-index c.loop-outlet.outlet-items
      c.loop-outlet.invariant.so_far
      (subst (λ n. n ≤ c.loop-outlet.outlet-index) (sym c.loop-outlet.auto.outlet-items) c.loop-outlet-test.false)
      (written_back c.args.self.now.outlets.len c.loop-outlet.outlet-items c.args.self.now.outlets.items (c.loop-outlet.invariant.so_far.many ∙ sym c.args.self.now.outlets.ok.0))
      refl c.loop-outlet.invariant.own c.loop-outlet.invariant.same;
}

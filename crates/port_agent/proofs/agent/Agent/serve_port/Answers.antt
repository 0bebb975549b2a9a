use Rattle.std.proofs.Common.{ℕ, Some, None, ◌<◌, ◌≤◌, [], ◌∷◌, ◌++◌, sym, ap, refl, subst}
use Rattle.std.specs.Prelude.{Contains}
use Rattle.std.proofs.lemmas.List.Elements.{Contains-push}
use Rattle.outside.specs.Wire.{Accepts}
use Rattle.port_board.specs.declared.view.Grant.{Grant}
use Rattle.port_board.specs.declared.view.Step.TheVariants.{Rests}
use Rattle.port_board.specs.declared.view.View.{View}
use Rattle.port_board.specs.Views.{report, IsLength, IsNewest}
use Rattle.port_agent.specs.Served.{GoesOn, TriedOnce}
use Rattle.port_agent.proofs.Tries.{goes_missed, goes_drawn, tried_grant, tried_idle, tried_other}
use Rattle.port_agent.proofs.agent.Agent.serve_port.Goals as goal

pub report-requires-clause-drawn : goal.report-requires-clause-drawn
report-requires-clause-drawn g c = let d = c.in-Drawn.ensures.drawn _ refl in subst (λ (v : View). Contains v.out c.in-Drawn.drawn) (sym d.1) (Contains-push _ c.in-Drawn.drawn)

pub returns-in-Drawn-clause-port : goal.returns-in-Drawn-clause-port
returns-in-Drawn-clause-port g c =
    let view = ap (λ u. u.view) c.self.view_is in
    let d = c.in-Drawn.ensures.drawn _ refl in
    let it : Grant = c.in-Drawn.drawn in
    let sent : ℕ = c.send-sent.result in
    let long = c.length-length.ensures in
    let t = c.send-sent.ensures in
    let goes = goes_drawn c.self.inside.seat.view c.draw.new.seat.view c.report.new.seat.view _ _ sent it d.1 c.in-Drawn.ensures.once c.report.ensures.report in (
      report it sent,
      d.0,
      sym long,
      refl,
      subst IsLength (sym long) (c.in-Drawn.ensures.length _ refl),
      record {
        bound = subst (λ z. sent ≤ z) long t.bound;
        run = subst (λ (z : ℕ × ℕ). Accepts (g.W.Wire.runs c.args.wire.now) (g.W.Wire.runs c.send-sent.new.self) z.0 z.1 sent) (λ i. (c.slot.ensures i, c.flow.ensures i)) t.runs;
        cause = λ less. t.cause (subst (λ z. sent < z) (sym long) less);
        later = t.later;
      },
      subst (λ (v : View). GoesOn v c.report.new.seat.view (report it sent ∷ [])) view goes,
      subst (λ (v : View). IsNewest it v.shown) view (c.in-Drawn.ensures.newest _ refl),
      subst (λ (v : View). TriedOnce c.args.board.now.ports c.args.port v c.report.new.seat.view (Some (report it sent))) view
          (tried_grant c.args.board.now.ports c.args.port sent it c.self.inside.seat.view c.draw.new.seat.view c.report.new.seat.view d.0 d.1 c.report.ensures.report),
    )

pub returns-in-Idle-clause-port : goal.returns-in-Idle-clause-port
returns-in-Idle-clause-port g c =
    let view = ap (λ u. u.view) c.self.view_is in
    let idle = c.in-Idle.ensures.idle _ refl in
    let e = idle.1 in
    let v : View = c.self.inside.seat.view in (
      refl,
      c.in-Idle.ensures.idle_listed _ refl,
      subst (λ (z : View). GoesOn z c.draw.new.seat.view []) view
          (subst (λ (z : View). GoesOn v z []) (sym e) (goes_missed v Rests (v.looks ++ (c.args.port, c.in-Idle._word) ∷ []) c.args.port)),
      subst (λ (z : View). TriedOnce c.args.board.now.ports c.args.port z c.draw.new.seat.view None) view
          (tried_idle c.args.board.now.ports c.args.port c.in-Idle._word v c.draw.new.seat.view idle.0 e),
    )

pub returns-in-Missed-clause-port : goal.returns-in-Missed-clause-port
returns-in-Missed-clause-port g c =
    let view = ap (λ u. u.view) c.self.view_is in
    let missed = c.in-Missed.ensures.missed _ _ refl in
    let e = missed.2 in
    let v : View = c.self.inside.seat.view in (
      refl,
      c.in-Missed.ensures.missed_listed _ _ refl,
      subst (λ (z : View). GoesOn z c.draw.new.seat.view []) view
          (subst (λ (z : View). GoesOn v z []) (sym e)
          (goes_missed v Rests ((v.looks ++ (c.args.port, c.in-Missed._loaded) ∷ []) ++ (c.args.port, c.in-Missed._found) ∷ []) c.args.port)),
      subst (λ (z : View). TriedOnce c.args.board.now.ports c.args.port z c.draw.new.seat.view None) view
          (tried_other c.args.board.now.ports c.args.port c.in-Missed._loaded c.in-Missed._found v c.draw.new.seat.view missed.0 missed.1 e),
    )

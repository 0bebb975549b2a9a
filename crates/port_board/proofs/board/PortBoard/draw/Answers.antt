use Rattle.std.proofs.Common.{◌≡◌, ◌+◌, ◌<◌, [], ◌∙◌, sym, ap, refl, subst, true}
use Rattle.std.specs.Prelude.{Contains}
use Rattle.std.proofs.lemmas.List.Elements.{Contains-push}
use Rattle.port_board.specs.declared.view.Kind.TheVariants.{Agent}
use Rattle.atomic_table.specs.Seated.{TableId}
use Rattle.coflow_units.specs.PortWord.{shows_granted}
use Rattle.port_board.specs.Views.{number_of, IsNewest, LastIsListed}
use Rattle.port_board.specs.Tells.{loaded_now, drawn_now, after_miss}
use Rattle.port_board.proofs.AgentSteps.{M}
use Rattle.port_board.specs.declared.view.Step.TheVariants.{Rests}
use Rattle.port_board.proofs.Lists.{listed}
use Rattle.port_board.proofs.Sitting.{SeatOk, draw_cases, after_drawn, after_missed, after_idle, carry}
use Rattle.port_board.proofs.board.PortBoard.draw.Goals as goal

pub exchange-requires-clause-agent : goal.exchange-requires-clause-agent
exchange-requires-clause-agent c = let kind = ap (λ (m : M). m.0.kind) (c.in-Ok.ensures.granted _ refl).1 in kind ∙ (c.seat.invariant.2 ∙ ap (λ k. Agent (number_of k)) (sym kind))

pub exchange-requires-clause-loaded : goal.exchange-requires-clause-loaded
exchange-requires-clause-loaded c = let e = c.in-Ok.ensures.granted _ refl in (ap (λ (m : M). m.0.step) e.1, e.0)

pub invariant_of-seat : goal.invariant_of-seat
invariant_of-seat c =
    let e = (c.in-Ok.ensures.granted _ refl).1 in
    let table = c.exchange.ensures.own ∙ c.look.ensures.own in
    draw_cases (SeatOk c.seat.inside.ports c.exchange.new.place.table_id.words c.exchange.new.place.me) c.exchange.result
    (λ g is. let d = c.exchange.ensures.drawn g is in
    carry _ _ _ _ _ table (d.3 ∙ ap (λ (m : M). (drawn_now c.args.self.now.ports g c.in-Ok.loaded m.0, m.1)) e)
    (after_drawn c.seat.inside.ports _ c.args.self.now.ports c.args.port c.in-Ok.loaded c.seat.inside.place.me g c.seat.invariant
    (subst (λ (t : TableId). g.port + g.port < t.words) c.look.ensures.own (c.exchange.ensures.range g is)) d.1))
    (λ a b is. let d = c.exchange.ensures.missed a b is in
    carry _ _ _ _ _ table (d.2 ∙ ap (λ (m : M). (after_miss c.args.port b m.0, m.1)) e)
    (after_missed c.seat.inside.ports _ c.args.port c.in-Ok.loaded b c.seat.inside.place.me c.seat.invariant))
    c.exchange.ensures.tried

pub invariant_of-seat-in-Err : goal.invariant_of-seat-in-Err
invariant_of-seat-in-Err c = let e = (c.in-Err.ensures.idle _ refl).1 in
    carry _ _ _ _ _ c.look.ensures.own e (after_idle c.seat.inside.ports _ c.args.port c.in-Err.word c.seat.inside.place.me c.seat.invariant)

pub returns-in-Ok-clause-drawn : goal.returns-in-Ok-clause-drawn
returns-in-Ok-clause-drawn c g is =
    let e = (c.in-Ok.ensures.granted _ refl).1 in
    let view = ap (λ u. u.view) c.seat.view_is in
    let d = c.exchange.ensures.drawn g is in (
      d.0,
      ap (λ (m : M). m.0) (d.3 ∙ ap (λ (m : M). (drawn_now c.args.self.now.ports g c.in-Ok.loaded m.0, m.1)) e) ∙
          (λ i. drawn_now c.args.self.now.ports g (d.2 i) (loaded_now (sym d.0 i) (d.2 i) (view i))),
    )

pub returns-in-Ok-clause-missed : goal.returns-in-Ok-clause-missed
returns-in-Ok-clause-missed c a b is =
    let e = c.in-Ok.ensures.granted _ refl in
    let view = ap (λ u. u.view) c.seat.view_is in
    let d = c.exchange.ensures.missed a b is in (
      subst (λ z. shows_granted z ≡ true) (sym d.0) e.0,
      (λ x. d.1 (x ∙ d.0)),
      ap (λ (m : M). m.0) (d.2 ∙ ap (λ (m : M). (after_miss c.args.port b m.0, m.1)) e.1) ∙
          (λ i. after_miss c.args.port b (loaded_now c.args.port (sym d.0 i) (view i))),
    )

pub returns-in-Ok-clause-missed_listed : goal.returns-in-Ok-clause-missed_listed
returns-in-Ok-clause-missed_listed c a b is =
    let e = c.in-Ok.ensures.granted _ refl in
    let d = c.exchange.ensures.missed a b is in
    subst (λ (m : M). LastIsListed c.args.port m.0) (sym (d.2 ∙ ap (λ (m : M). (after_miss c.args.port b m.0, m.1)) e.1)) (listed c.seat.inside.place.me.0 Rests [] c.args.port)

pub returns-in-Err-clause-idle_listed : goal.returns-in-Err-clause-idle_listed
returns-in-Err-clause-idle_listed c word is =
    subst (λ (m : M). LastIsListed c.args.port m.0) (sym (c.in-Err.ensures.idle _ refl).1) (listed c.seat.inside.place.me.0 Rests [] c.args.port)

pub returns-in-Ok-clause-held : goal.returns-in-Ok-clause-held
returns-in-Ok-clause-held c g is = let d = c.exchange.ensures.drawn g is in subst (λ (m : M). Contains m.0.out g) (sym d.3) (Contains-push c.look.new.place.me.0.out g)

pub returns-in-Ok-clause-newest : goal.returns-in-Ok-clause-newest
returns-in-Ok-clause-newest c g is =
    let e = (c.in-Ok.ensures.granted _ refl).1 in
    let view = ap (λ u. u.view) c.seat.view_is in
    subst (IsNewest g) (ap (λ (m : M). m.0.shown) e ∙ ap (λ v. v.shown) view) (c.exchange.ensures.newest g is)

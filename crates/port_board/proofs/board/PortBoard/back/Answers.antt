use Rattle.std.proofs.Common.{◌+◌, ◌≤◌, ◌∙◌, sym, ap, subst, length}
use Rattle.std.specs.Prelude.{Contains}
use Rattle.std.proofs.lemmas.List.Elements.{Contains-push}
use Rattle.port_board.specs.declared.view.View.{View}
use Rattle.port_board.specs.declared.view.Came.{Came}
use Rattle.port_board.specs.Views.{looked, came_of, agents_out}
use Rattle.port_board.proofs.AgentSteps.{M}
use Rattle.port_board.proofs.PosterSteps.{learning}
use Rattle.port_board.proofs.Seats.{takes_agent}
use Rattle.port_board.proofs.Posting.{after_back, some_out, one_fewer, carry_poster}
use Rattle.port_board.proofs.board.PortBoard.back.Goals as goal

pub join_seat-requires-clause-allowed : goal.join_seat-requires-clause-allowed
join_seat-requires-clause-allowed c =
    takes_agent _ _ _ _ _ _ c.poster.invariant.2 c.poster.invariant.1 c.seat.invariant.2 (ap (λ u. u.view.out) c.seat.view_is ∙ c.requires.reported)

pub load-requires-clause-allowed : goal.load-requires-clause-allowed
load-requires-clause-allowed c = let e = c.join_seat.ensures.seat in
    learning _ _ _ _ _ (ap (λ (m : M). m.0.kind) e ∙ c.poster.invariant.2) (ap (λ (m : M). m.0.step) e ∙ c.poster.invariant.1)

pub overflow_sub-poster : goal.overflow_sub-poster
overflow_sub-poster c =
    let e = c.join_seat.ensures.seat in
    some_out c.poster.inside.agents c.poster.inside.posted.items c.poster.inside.counts.items _ c.poster.inside.place.me c.seat.inside.place.me.0 c.poster.invariant
    (subst (λ (m : M). length m.0.back ≤ m.0.made) e c.load.ensures.told.1)

pub invariant_of-poster : goal.invariant_of-poster
invariant_of-poster c =
    let e = c.join_seat.ensures.seat in
    let out = some_out c.poster.inside.agents c.poster.inside.posted.items c.poster.inside.counts.items _ c.poster.inside.place.me c.seat.inside.place.me.0 c.poster.invariant
    (subst (λ (m : M). length m.0.back ≤ m.0.made) e c.load.ensures.told.1) in
    carry_poster _ _ _ _ _ _ _ (c.load.ensures.own.0 ∙ c.join_seat.ensures.own.0) (c.load.ensures.told.0 ∙ ap (λ (m : M). (looked 0 c.load.result m.0, m.1)) e)
    (after_back c.poster.inside.agents c.poster.inside.posted.items c.poster.inside.counts.items _ 0 c.load.result c.poster.inside.place.me c.seat.inside.place.me.0
    c.poster.invariant out)

pub returns-clause-fewer : goal.returns-clause-fewer
returns-clause-fewer c =
    let e = c.join_seat.ensures.seat in
    let out = some_out c.poster.inside.agents c.poster.inside.posted.items c.poster.inside.counts.items _ c.poster.inside.place.me c.seat.inside.place.me.0 c.poster.invariant
    (subst (λ (m : M). length m.0.back ≤ m.0.made) e c.load.ensures.told.1) in
    ap (λ (m : M). agents_out m.0 + 1) (c.load.ensures.told.0 ∙ ap (λ (m : M). (looked 0 c.load.result m.0, m.1)) e)
    ∙ (one_fewer c.poster.inside.agents c.poster.inside.posted.items c.poster.inside.counts.items _ c.poster.inside.place.me c.seat.inside.place.me.0 c.poster.invariant out ∙
    ap agents_out (ap (λ u. u.view) c.poster.view_is))

pub returns-clause-handed : goal.returns-clause-handed
returns-clause-handed c =
    let e = c.join_seat.ensures.seat in
    let went = c.load.ensures.told.0 ∙ ap (λ (m : M). (looked 0 c.load.result m.0, m.1)) e in
    let view = ap (λ u. u.view) c.seat.view_is in
    let came : Came = came_of c.seat.inside.place.me.0 in (
      came,
      subst (λ (m : M). Contains m.0.back came) (sym went) (Contains-push c.poster.inside.place.me.0.back came),
      ap (λ (v : View). v.done) view,
      ap (λ (v : View). v.missed) view,
    )

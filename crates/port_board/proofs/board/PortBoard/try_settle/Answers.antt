use Rattle.std.proofs.Common.{rules, ◌≡◌, ℕ, inl, inr, ◌+◌, ◌∙◌, sym, ap, refl, subst, cond, true, ne_eqb, Some, None}
use Rattle.port_board.specs.declared.view.Grant.{Grant}
use Rattle.coflow_units.specs.PortWord.{shows_drawn}
use Rattle.port_board.specs.Views.{last_at, looked, settled_as, ShowsLast}
use Rattle.port_board.specs.Agreement.{NobodyHad}
use Rattle.port_board.specs.Tells.{seen_by_poster, IsPending}
use Rattle.port_board.proofs.AgentSteps.{M}
use Rattle.port_board.proofs.PosterSteps.{poster_loading, taking, step_offered, step_rests}
use Rattle.port_board.proofs.board.PortBoard.try_settle.Goals as goal

pub load-loaded-requires-clause-allowed : goal.load-loaded-requires-clause-allowed
load-loaded-requires-clause-allowed c = poster_loading _ _ _ _ _ c.requires.poster.0 c.requires.poster.1 (search rules)

pub returns-then-not-is_shown-clause-sent : goal.returns-then-not-is_shown-clause-sent
returns-then-not-is_shown-clause-sent c n is =
    let e = c.load-loaded.ensures.told.0 in
    let t = c.conclude.ensures.sent n is in (
      c.load-loaded.result,
      c.args.place.now.me.0,
      inl refl,
      t.0,
      t.1 ∙ ap (λ (m : M). looked (c.args.self.now.ports + c.args.port) n (settled_as c.args.port (Some n) m.0)) e,
      (c.load-loaded.ensures.told.1 c.requires.unsettled).2,
    )

pub compare_exchange-found-requires-clause-allowed : goal.compare_exchange-found-requires-clause-allowed
compare_exchange-found-requires-clause-allowed c =
    let e = c.load-loaded.ensures.told.0 in
    taking _ _ _ _ _ _ (ap (λ (m : M). m.0.kind) e ∙ c.requires.poster.0)
    (ap (λ (m : M). m.0.step) e ∙ step_offered _ _ (sym c.is_shown.ensures ∙ c.if-not-is_shown.false)) (search rules)

pub returns-then-found-loaded-clause-nobody : goal.returns-then-found-loaded-clause-nobody
returns-then-found-loaded-clause-nobody c g is last =
    let e = c.load-loaded.ensures.told.0 in
    let t = c.compare_exchange-found.ensures.told in
    subst (λ (m : M). (g : Grant) → last_at c.args.port m.0.posts ≡ Some g → NobodyHad g m.0) e (t.2.0 c.if-found-loaded.true) g last

pub returns-clause-sent : goal.returns-clause-sent
returns-clause-sent c n is =
    let e = c.load-loaded.ensures.told.0 in
    let x = c.compare_exchange-found.ensures.told.0 ∙
    ap (λ b. (
      cond b (looked c.args.port c.compare_exchange-found.result (settled_as c.args.port None c.load-loaded.new.seat.me.0))
          (seen_by_poster c.args.port c.compare_exchange-found.result c.load-loaded.new.seat.me.0),
      c.load-loaded.new.seat.me.1,
    )) (ne_eqb _ _ c.if-found-loaded.false) in
    let t = c.conclude-2.ensures.sent n is in (
      c.compare_exchange-found.result,
      looked c.args.port c.load-loaded.result c.args.place.now.me.0,
      inr (c.load-loaded.result, sym c.is_shown.ensures ∙ c.if-not-is_shown.false, refl),
      t.0,
      t.1 ∙ (ap (λ (m : M). looked (c.args.self.now.ports + c.args.port) n (settled_as c.args.port (Some n) m.0)) x
          ∙ ap (λ (m : M). looked (c.args.self.now.ports + c.args.port) n (settled_as c.args.port (Some n) (seen_by_poster c.args.port c.compare_exchange-found.result m.0))) e),
      (subst (λ (m : M). IsPending c.args.port c.compare_exchange-found.result m.0) e c.compare_exchange-found.ensures.told.1 c.requires.unsettled).2,
    )

pub returns-clause-busy : goal.returns-clause-busy
returns-clause-busy c word is =
    let e = c.load-loaded.ensures.told.0 in
    let x = c.compare_exchange-found.ensures.told.0 ∙
    ap (λ b. (
      cond b (looked c.args.port c.compare_exchange-found.result (settled_as c.args.port None c.load-loaded.new.seat.me.0))
          (seen_by_poster c.args.port c.compare_exchange-found.result c.load-loaded.new.seat.me.0),
      c.load-loaded.new.seat.me.1,
    )) (ne_eqb _ _ c.if-found-loaded.false) in
    let t = c.conclude-2.ensures.busy word is in
    let shown = subst (λ z. shows_drawn z ≡ true) (sym t.0) t.1 in (
      looked c.args.port c.load-loaded.result c.args.place.now.me.0,
      inr (c.load-loaded.result, sym c.is_shown.ensures ∙ c.if-not-is_shown.false, refl),
      shown,
      ap (λ (m : M). m.0) (t.2 ∙ (x ∙ ap (λ (m : M). (seen_by_poster c.args.port c.compare_exchange-found.result m.0, m.1)) e))
          ∙ (λ i. record (looked c.args.port (sym t.0 i) (looked c.args.port c.load-loaded.result c.args.place.now.me.0))
          { step = (step_rests c.args.port c.compare_exchange-found.result t.1 ∙ sym c.requires.poster.1) i }),
    )

pub returns-clause-busy_is_posted : goal.returns-clause-busy_is_posted
returns-clause-busy_is_posted c word is =
    let e = c.load-loaded.ensures.told.0 in
    let shown = (subst (λ (m : M). IsPending c.args.port c.compare_exchange-found.result m.0) e c.compare_exchange-found.ensures.told.1 c.requires.unsettled).2 in
    subst (λ (z : ℕ). ShowsLast c.args.port z c.args.place.now.me.0.posts) (sym (c.conclude-2.ensures.busy word is).0) shown

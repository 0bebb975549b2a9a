use Rattle.std.proofs.Common.{rules, sym, ap, ◌∙◌, subst}
use Rattle.turnstile.specs.Tickets.{IsNumbered}
use Rattle.turnstile.proofs.Stages.{is_idle}
use Rattle.turnstile.proofs.SeatSteps.{takes_in_on}
use Rattle.turnstile.proofs.NoteSteps.{learns_on}
use Rattle.turnstile.proofs.lock.Turnstile.rejoin.Goals as goal

pub join_seat-requires : goal.join_seat-requires
join_seat-requires g c =
    let idle = is_idle c.seat.inside.place.me.0.stage c.seat.inside.place.me.1 c.seat.invariant.1 (ap (λ s. s.in_turn) c.seat.view_is ∙ c.requires.free) in (
      search rules,
      search rules,
      idle.1,
      search rules,
      takes_in_on _ _ _ _ _ _ _ _ c.seat.inside.number c.root.invariant.0 c.seat.invariant.0 idle.0,
    )

pub load-requires : goal.load-requires
load-requires g c = (
  search rules,
  search rules,
  learns_on _ _ _ _ _ _ _ (subst (λ m. IsNumbered m.0.role) (sym c.join_seat.ensures.2) (subst IsNumbered (sym c.root.invariant.0) tt)),
)

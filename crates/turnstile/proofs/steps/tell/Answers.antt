use Rattle.std.proofs.Common.{rules, sym, ap, subst}
use Rattle.turnstile.specs.Tickets.{IsNumbered}
use Rattle.turnstile.proofs.NoteSteps.{writes_note, reads_note, learns_on}
use Rattle.turnstile.proofs.steps.tell.Goals as goal

pub split_seat-note-requires : goal.split_seat-note-requires
split_seat-note-requires g c = (search rules, search rules, writes_note _ _ _ _ _ _)

pub join_seat-requires : goal.join_seat-requires
join_seat-requires g c = let note = c.split_seat-note.ensures.4 in
    (search rules, search rules, ap (λ m. m.1) note, search rules, reads_note _ _ _ _ _ _ _ _ (ap (λ m. m.0.role) note))

pub load-requires : goal.load-requires
load-requires g c = (search rules, search rules, learns_on _ _ _ _ _ _ _ (subst (λ m. IsNumbered m.0.role) (sym c.join_seat.ensures.2) c.requires.numbered.1))

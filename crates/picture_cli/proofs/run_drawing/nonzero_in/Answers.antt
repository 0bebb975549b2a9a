use Rattle.picture_cli.proofs.RunFacts.{left_out, taken}
use Rattle.std.proofs.Common.{refl}
use Rattle.picture_cli.proofs.run_drawing.nonzero_in.Goals.{then-slot-ne0+in_ok-push, else-slot-ne0}
use Rattle.picture_cli.proofs.run_drawing.nonzero_in.Goals as goal

pub loop-place-preserved : goal.loop-place-preserved
loop-place-preserved c = elim c.if-slot-ne0.branch [
  | then-slot-ne0+in_ok-push w ↦ rw w.places-is
      (taken c.args.slots.now c.loop-place.place c.number_at-slot.result c.number_at-slot.ensures.number c.loop-place.invariant w.if-slot-ne0.true w.in_ok-push.ensures.items)
  | else-slot-ne0 w ↦ rw w.places-is
      (left_out c.args.slots.now c.loop-place.place c.number_at-slot.result c.number_at-slot.ensures.number c.loop-place.invariant w.if-slot-ne0.false refl)
]

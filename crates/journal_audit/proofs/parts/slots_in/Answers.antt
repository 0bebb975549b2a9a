use Rattle.std.proofs.Common.{◌+◌, arith, []}
use Rattle.run_list.specs.Runs.{run_of}
use Rattle.schedule_model.proofs.RunSlots.{count_more, count_within}
use Rattle.journal_audit.proofs.parts.slots_in.Goals as goal

pub overflow_add-slots : goal.overflow_add-slots
overflow_add-slots c =
    let none = run_of 0 [] in
    omega (
      arith,
      c.requires,
      c.loop-place.invariant,
      c.slots-slots.ensures none,
      count_more c.args.runs.now c.loop-place.place none (omega arith),
      count_within c.args.runs.now (c.loop-place.place + 1),
    )

pub loop-place-preserved : goal.loop-place-preserved
loop-place-preserved c =
    let none = run_of 0 [] in
    omega (arith, c.loop-place.invariant, c.slots-slots.ensures none, count_more c.args.runs.now c.loop-place.place none (omega arith))

use Rattle.std.proofs.Common.{◌+◌, ◌<◌, ◌≡◌, [], length, take, arith}
use Rattle.run_list.specs.Runs.{run_of}
use Rattle.schedule_model.specs.RunList.{slots_in}
use Rattle.schedule_model.proofs.RunSlots.{count_more, count_within}
use Rattle.coflow_stats.proofs.stats.makespan.Goals.{After-slots-slots}
use Rattle.coflow_stats.proofs.stats.makespan.Goals as goal

counted : (c : After-slots-slots) → c.loop-place.slots + c.slots-slots.result ≡ length (slots_in (take (c.loop-place.place + 1) c.args.runs.now))
counted c =
    let d = run_of 0 [] in
    let within : c.loop-place.place < length c.args.runs.now = omega (arith, c.loop-place-test.true, c.count-place-end.ensures) in
    omega (arith, c.loop-place.invariant, c.slots-slots.ensures d, count_more c.args.runs.now c.loop-place.place d within)

pub overflow_add-slots : goal.overflow_add-slots
overflow_add-slots c =
    let count = counted (goal.at.overflow_add-slots c).After-slots-slots in
    omega (arith, c.requires, count, count_within c.args.runs.now (c.loop-place.place + 1))

pub loop-place-preserved : goal.loop-place-preserved
loop-place-preserved c = counted (goal.at.loop-place-preserved c).After-slots-slots

use Rattle.std.proofs.Common.{arith}
use Rattle.report_text.proofs.TextSteps.{place_step, places_done}
use Rattle.report_text.proofs.writing.push_places.Goals as goal

pub loop-place-preserved : goal.loop-place-preserved
loop-place-preserved c = place_step c.args.report.now c.loop-place.place c.args.text.now.items c.loop-place.text.items c.push_place.new.text.items c.loop-place.invariant
    c.in_ok-push_place.ensures

pub push_place-requires-clause-place : goal.push_place-requires-clause-place
push_place-requires-clause-place c = rw c.as_slice-place-end.ensures at c.loop-place-test.true

pub returns : goal.returns
returns c =
    let above = rw c.as_slice-place-end.ensures at c.loop-place-test.false in
    let below = rw c.as_slice-place-end.ensures at c.loop-place.auto.place-end in
    places_done c.args.report.now c.loop-place.place c.args.text.now.items c.loop-place.text.items (omega (arith, above, below)) c.loop-place.invariant

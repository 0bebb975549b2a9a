use Rattle.std.proofs.Common.{slice_index, arith}
use Rattle.std.proofs.lemmas.Grind.{common_steps}
use Rattle.cert_check.proofs.IdSteps.{found_more}
use Rattle.journal_audit.proofs.ids.places_by_id.Goals as goal

pub loop-place-preserved : goal.loop-place-preserved
loop-place-preserved c = λ id.
    let ids = c.args.ids.now in
    let more = found_more ids c.loop-place.place id c.loop-place-test.true in
    let here = c.loop-place.invariant id in
    let there = c.loop-place.invariant (slice_index ids c.loop-place.place) in
    grind (arith, common_steps)

use Rattle.std.proofs.Common.{◌≡◌, ◌-◌, ◌≤◌, ℕ, List, length, take, drop, arith, length-drop, ◌∙◌}
use Rattle.std.proofs.lemmas.Grind.{common_steps}
use Rattle.outside.specs.declared.sink.Failed.{Failed}
use Rattle.outside.proofs.WriteSteps.{write_step}
use Rattle.outside.proofs.writing.write_all.Goals as goal

rest : (w : ℕ) (text : List ℕ) → w ≤ length text → take (length text - w) (drop w text) ≡ drop w text
rest w text within = grind (arith, common_steps)

pub loop-written-preserved : goal.loop-written-preserved
loop-written-preserved g c =
    let w = c.loop-written.written in
    let text = c.args.text.now in
    let n = c.in_ok-written.field-0 in
    let same : take (length text - w) (drop w text) ≡ drop w text = rest w text (omega arith) in
    let bound = rw (length-drop w text) at (rw same at c.in_ok-written.ensures.bound) in
    record {
      within = omega (arith, bound);
      still = c.in_ok-written.ensures.still ∙ c.loop-written.invariant.still;
      taken = write_step Failed _ _ _ text _ w n same c.loop-written.invariant.taken c.in_ok-written.ensures.taken;
    }

-- Part by part, until one stopped.
use Rattle.std.proofs.Common.{◌≡◌, [], ◌∷◌, ◌++◌, Some, length, sym, ap, ◌∙◌, subst, arith, append_assoc, List}
use Rattle.std.specs.Vec.Iter.{into_iter_items}
use Rattle.live_rounds.specs.declared.part.Part.{Part}
use Rattle.live_rounds.specs.Parts.{stops_of}
use Rattle.live_rounds.specs.Stops.{first_stop}
use Rattle.live_rounds.proofs.Collecting.{none_more, pulls_more, stop_here}
use Rattle.live_rounds.proofs.rounds.collect.Goals as goal

pub returns-in-Some-stop : goal.returns-in-Some-stop
returns-in-Some-stop c =
    let at = c.loop-part in
    let p = c.in-Some.part in
    let rest = into_iter_items c.next.new.self in
    let steps : into_iter_items at.part-iterator ≡ p ∷ rest = c.in-Some.ensures.steps.0 in
    let whole : at.yielded ++ p ∷ rest ≡ c.args.parts.items = ap (λ l. at.yielded ++ l) (sym steps) ∙ at.invariant.items in
    let stop = c.in-Some-stop.stop in
    (stop, subst (λ (l : List Part). first_stop (stops_of l) ≡ Some stop) whole (stop_here at.yielded rest p stop at.invariant.none c.in-Some-stop.is), c.of_round.ensures)

pub loop-part-preserved : goal.loop-part-preserved
loop-part-preserved c =
    let at = c.loop-part in
    let p = c.in-Some.part in
    let steps : into_iter_items at.part-iterator ≡ p ∷ into_iter_items c.next.new.self = c.in-Some.ensures.steps.0 in
    record {
      items = append_assoc at.yielded (p ∷ []) _ ∙ rw (← steps) at.invariant.items;
      len = (let was = at.invariant.len in let gone = c.in-Some.ensures.steps.1 in let short = ap length steps in omega arith);
      pulls = c.push_all.ensures.items ∙ ((λ i. at.invariant.pulls i ++ c.deref.ensures.value i) ∙ sym (pulls_more at.yielded p));
      none = none_more at.yielded p at.invariant.none c.in_default.not-Some;
      room = c.push_all.ensures.room ∙ at.invariant.room;
    }

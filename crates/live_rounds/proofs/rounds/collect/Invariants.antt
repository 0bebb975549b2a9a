-- the parts so far did not stop, and these are their pulls
use Rattle.std.proofs.Common.{◌≡◌, ◌++◌, None, length, vec_capacity}
use Rattle.std.specs.Vec.Iter.{into_iter_items, into_iter_len}
use Rattle.live_rounds.specs.Parts.{pulls_together, stops_of}
use Rattle.live_rounds.specs.Stops.{first_stop}
use Rattle.live_rounds.proofs.rounds.collect.Given as goal

abbrev pub invariant-loop-part : goal.invariant-loop-part
invariant-loop-part l = record {
  items : l.yielded ++ into_iter_items l.part-iterator ≡ l.fn.parts.items;
  len : into_iter_len l.part-iterator ≡ length (into_iter_items l.part-iterator);
  pulls : l.pulls.items ≡ pulls_together l.yielded;
  none : first_stop (stops_of l.yielded) ≡ None;
  room : vec_capacity l.pulls ≡ vec_capacity l.fn.pulls;
}

use Rattle.std.proofs.Common.{◌≡◌, ◌+◌, ◌-◌, drop, length, take}
use Rattle.run_list.proofs.Merging.{IsMerging}
use Rattle.run_list.proofs.changes.tell_changes.Given as goal

abbrev pub invariant-loop-place : goal.invariant-loop-place
invariant-loop-place l = record {
  front : take (length l.initial.numbers.items) l.numbers.items ≡ l.initial.numbers.items;
  merging : IsMerging l.before l.flows (drop (length l.initial.numbers.items) l.numbers.items) l.place l.next;
}

abbrev pub decreases-loop-place : goal.decreases-loop-place
decreases-loop-place l = (length l.before - l.place) + (length l.flows - l.next)

use Rattle.std.proofs.Common.{◌≡◌, ◌+◌, ◌-◌, ◌≤◌, length}
use Rattle.std.specs.Prelude.{vec_capacity}
use Rattle.run_list.proofs.Turning.{IsComparing}
use Rattle.run_list.proofs.turnover.compare.Given as goal

abbrev pub invariant-loop-place : goal.invariant-loop-place
invariant-loop-place l = record {
  within : l.place ≤ length l.before;
  inside : l.next ≤ length l.flows;
  comparing : IsComparing l.before l.flows l.turnover.gone.items l.turnover.come.items l.place l.next;
  gone_room : vec_capacity l.turnover.gone ≡ vec_capacity l.fn.turnover.gone;
  come_room : vec_capacity l.turnover.come ≡ vec_capacity l.fn.turnover.come;
}

abbrev pub decreases-loop-place : goal.decreases-loop-place
decreases-loop-place l = (length l.before - l.place) + (length l.flows - l.next)

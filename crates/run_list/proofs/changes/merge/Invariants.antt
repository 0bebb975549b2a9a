use Rattle.std.proofs.Common.{◌≡◌, ◌+◌, ◌-◌, ◌≤◌, length, take}
use Rattle.std.specs.Prelude.{vec_capacity}
use Rattle.run_list.proofs.Merging.{IsMerging}
use Rattle.run_list.proofs.Turning.{IsChanging}
use Rattle.run_list.proofs.changes.merge.Given as goal

abbrev pub invariant-loop-place : goal.invariant-loop-place
invariant-loop-place l = record {
  fits : l.count ≤ length l.into;
  merging : IsMerging l.flows l.changes (take l.count l.into) l.place l.next;
  changing : IsChanging l.flows l.changes l.turnover.gone.items l.turnover.come.items l.place l.next;
  gone_room : vec_capacity l.turnover.gone ≡ vec_capacity l.fn.turnover.gone;
  come_room : vec_capacity l.turnover.come ≡ vec_capacity l.fn.turnover.come;
}

abbrev pub decreases-loop-place : goal.decreases-loop-place
decreases-loop-place l = (length l.flows - l.place) + (length l.changes - l.next)

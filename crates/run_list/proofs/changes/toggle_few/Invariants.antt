use Rattle.std.proofs.Common.{◌≡◌, ◌≤◌, length, take}
use Rattle.std.specs.Prelude.{vec_capacity}
use Rattle.run_list.proofs.Merging.{IsMerging}
use Rattle.run_list.proofs.Turning.{IsChanging}
use Rattle.run_list.proofs.changes.toggle_few.Given as goal

abbrev pub invariant-loop-change : goal.invariant-loop-change
invariant-loop-change l = record {
  fits : l.count ≤ length l.into;
  merging : IsMerging l.flows l.changes (take l.count l.into) l.place l.change-index;
  changing : IsChanging l.flows l.changes l.turnover.gone.items l.turnover.come.items l.place l.change-index;
  gone_room : vec_capacity l.turnover.gone ≡ vec_capacity l.fn.turnover.gone;
  come_room : vec_capacity l.turnover.come ≡ vec_capacity l.fn.turnover.come;
}

use Rattle.std.proofs.Common.{◌≡◌, ◌++◌, take}
use Rattle.std.specs.Prelude.{vec_capacity}
use Rattle.run_list.proofs.turnover.push_all.Given as goal

abbrev pub invariant-loop-number : goal.invariant-loop-number
invariant-loop-number l = record {
  items : l.to.items ≡ l.fn.to.items ++ take l.number-index l.numbers;
  room : vec_capacity l.to ≡ vec_capacity l.fn.to;
}

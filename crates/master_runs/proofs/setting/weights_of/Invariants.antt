use Rattle.std.proofs.Common.{◌≡◌, ◌≤◌, ◌^◌, vec_len}
use Rattle.std.specs.Prelude.{All}
use Rattle.master_runs.proofs.setting.weights_of.Given as goal

abbrev pub invariant-loop-coflow : goal.invariant-loop-coflow
invariant-loop-coflow l = record {
  len : vec_len l.weights ≡ l.coflow;
  fit : All (λ w. (1 ≤ w) × (w ≤ 2 ^ 32)) l.weights.items;
}
